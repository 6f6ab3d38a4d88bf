-- Laws of the sides of one kind, of which every one is as it has to be: what each side is, and of counts that are 0 past every
-- side's sets. Each is read off the test of the side's 16 places. Assumes nothing.
use Prim.Native.Nat.{ℕ, ◌+◌, ◌*◌, ◌-◌, ◌<◌, ◌≤◌}
use native.Mathlib.Decide.{ℕ_discrete as dec_eq}
use native.Mathlib.Omega.{arith}
use mathlib.Core.Path.{◌≡◌, sym, ap, ◌∙◌}
use mathlib.Core.Bool.{Bool, true, false, ◌&&◌}
use mathlib.Core.List.{List, [], ◌∷◌}
use lib.Dec.{leb, eqb}
use lib.ListN.{length, take, drop, get_or, length-take, length-drop, get_or-eq_default}
use lib.Seq.{take-take, get_or-take, get_or-drop}
use borrow.Author.Tests.{leb-true, eqb-true, eq-eqb, ne_eqb}
use Rattle.obligations.specs.Limits.{activities, masks}
use Rattle.obligations.proofs.BoolLaws.{and_left, and_right}
use Rattle.net.specs.Limits.{sets, places}
use Rattle.net.specs.Lists.{listed, ascends_above, zeros}
use Rattle.net.specs.Sides.{sides_of, with_counts, block, first_of, sets_in, OnSide, Masks}
use Rattle.net.specs.Inner.{SidesFit, OrderlySides}
use Rattle.net.specs.Orderly.{block_ok, sides_ok, counts_ok}
use Rattle.net.specs.declared.Net.{Net}
use Rattle.net.specs.declared.sides.Side.{Side}
use Rattle.net.specs.declared.sides.Sides.{Sides}
use Rattle.net.proofs.BelowLaws.{below_at, below_true}
use Rattle.net.proofs.PlaceLaws.{Ascending, above_ascending, one_ascends}
use Rattle.net.proofs.ListLaws.{length_part, zeros-at, at_zeros, listed_below}

-- counts as many as the record's, with 0 past each side's sets
pub record OrderlyCounts (sides : Sides) : Type 0 where
  pub counts_long : length sides.counts ≡ places
  pub all_zero : counts_ok sides ≡ true

-- sides with the same three arrays are the same
pub same_sides : (x y : Sides) → x.masks ≡ y.masks → x.lengths ≡ y.lengths → x.counts ≡ y.counts → x ≡ y
same_sides x y m l c = λ j. record { masks = m j; lengths = l j; counts = c j }

-- ---- places and lengths

pub block_at : (l : List ℕ) (a i : ℕ) → i < sets → get_or (block l a) i 0 ≡ get_or l (sets * a + i) 0
block_at l a i h = rw (get_or-take sets (drop (sets * a) l) i 0 h, get_or-drop (sets * a) l i 0)

-- the places of activity a past the first n are zero, as a test and place by place
pub past-zero : (l : List ℕ) (a n i : ℕ) → zeros (drop n (block l a)) ≡ true → n ≤ i → i < sets → get_or l (sets * a + i) 0 ≡ 0
past-zero l a n i z h k =
    let e : n + (i - n) ≡ i = omega arith in
    sym (block_at l a i k) ∙ sym (ap (λ (j : ℕ). get_or (block l a) j 0) e) ∙ sym (get_or-drop n (block l a) (i - n) 0) ∙ zeros-at (drop n (block l a)) z (i - n)

pub zero-past : (l : List ℕ) (a n : ℕ) → length l ≡ places → a < activities → ((i : ℕ) → n ≤ i → i < sets → get_or l (sets * a + i) 0 ≡ 0) → zeros (drop n (block l a)) ≡ true
zero-past l a n long h f =
    at_zeros (drop n (block l a))
    (λ i u.
    let k : n + i < sets = omega (arith, length_part l (sets * a) sets (omega arith), simp length-drop at u) in
    get_or-drop n (block l a) i 0 ∙ block_at l a (n + i) k ∙ f (n + i) (omega arith) k)

pub length-block : (l : List ℕ) (a : ℕ) → length l ≡ places → a < activities → length (block l a) ≡ sets
length-block l a long h = length_part l (sets * a) sets (omega arith)

-- the first n places of an activity
pub length-first : (l : List ℕ) (a n : ℕ) → length l ≡ places → a < activities → n ≤ sets → length (first_of l a n) ≡ n
length-first l a n long h k = length_part l (sets * a) n (omega arith)

pub block-first : (l : List ℕ) (a n : ℕ) → n ≤ sets → take n (block l a) ≡ first_of l a n
block-first l a n h = take-take n sets (drop (sets * a) l) h

pub first-at : (l : List ℕ) (a n i : ℕ) → i < n → get_or (first_of l a n) i 0 ≡ get_or l (sets * a + i) 0
first-at l a n i h = rw (get_or-take n (drop (sets * a) l) i 0 h, get_or-drop (sets * a) l i 0)

-- a set on a side is below a bound that every mask obeys
side_below : (b : ℕ) (sides : Sides) (a m : ℕ) → ((i : ℕ) → get_or sides.masks i 0 < b) → listed m (sets_in sides a) ≡ true → m < b
side_below b sides a m h e =
    listed_below b m (sets_in sides a)
    (λ i l. rw (first-at sides.masks a (get_or sides.lengths a 0) i (omega (arith, length-take (get_or sides.lengths a 0) (drop (sets * a) sides.masks)))) (h (sets * a + i))) e

pub set_is_mask : (net : Net) → Masks net → (side : Side) (a m : ℕ) → OnSide net side a m → m < masks
set_is_mask net small side a m e = side_below masks (sides_of net side) a m (small side) e

-- a number above 31 has no sets
pub side_beyond : (sides : Sides) (a : ℕ) → length sides.lengths ≡ activities → activities ≤ a → sets_in sides a ≡ []
side_beyond sides a long h = rw (get_or-eq_default sides.lengths 0 {n = a} (omega arith))

-- ---- the test of 16 places

pub empty_block : (b : List ℕ) (n : ℕ) → block_ok b n true ≡ true → (n ≡ 1) × (zeros b ≡ true)
unfolding block_ok
empty_block b n h = (eqb-true n 1 (and_left (eqb n 1) (zeros b) h), and_right (eqb n 1) (zeros b) h)

pub plain_block_lem : (b : List ℕ) (n : ℕ) → block_ok b n false ≡ true → (n ≤ sets) × (ascends_above 0 (take n b) ≡ true) × (zeros (drop n b) ≡ true)
unfolding block_ok
plain_block_lem b n h =
    let u = ascends_above 0 (take n b) in
    let z = zeros (drop n b) in
    let t = and_right (leb n sets) (u && z) h in
    (leb-true n sets (and_left (leb n sets) (u && z) h), and_left u z t, and_right u z t)

block-at_most : (b : List ℕ) (n : ℕ) (only : Bool) → block_ok b n only ≡ true → n ≤ sets
block-at_most b n true h = omega (arith, (empty_block b n h).0)
block-at_most b n false h = (plain_block_lem b n h).0

-- ---- one side

module _ (sides : Sides) (empty : ℕ) (o : OrderlySides sides empty) (a : ℕ) (h : a < activities) where
  pub side_ok : block_ok (block sides.masks a) (get_or sides.lengths a 0) (eqb a empty) ≡ true
  unfolding sides_ok
  side_ok = below_at activities (λ b. block_ok (block sides.masks b) (get_or sides.lengths b 0) (eqb b empty)) a h o.all_ok

  pub side_at_most : get_or sides.lengths a 0 ≤ sets
  side_at_most = block-at_most (block sides.masks a) (get_or sides.lengths a 0) (eqb a empty) side_ok

  pub empty_side_ok : a ≡ empty → (get_or sides.lengths a 0 ≡ 1) × (zeros (block sides.masks a) ≡ true)
  empty_side_ok e = empty_block (block sides.masks a) (get_or sides.lengths a 0) (rw (eq-eqb a empty e) at side_ok)

  pub plain_side_ok : (a ≡ empty → ⊥) → (ascends_above 0 (sets_in sides a) ≡ true) × (zeros (drop (get_or sides.lengths a 0) (block sides.masks a)) ≡ true)
  plain_side_ok d = let f = plain_block_lem (block sides.masks a) (get_or sides.lengths a 0) (rw (ne_eqb a empty d) at side_ok) in (rw (block-first sides.masks a (get_or sides.lengths a 0) side_at_most) at f.1, f.2)

  pub side_just_empty : a ≡ empty → sets_in sides a ≡ 0 ∷ []
  side_just_empty e =
      let f = empty_side_ok e in
      just_zero (sets_in sides a) (length-first sides.masks a (get_or sides.lengths a 0) o.masks_long h side_at_most ∙ f.0)
      (first-at sides.masks a (get_or sides.lengths a 0) 0 (omega (arith, f.0)) ∙ sym (block_at sides.masks a 0 (omega arith)) ∙ zeros-at (block sides.masks a) f.1 0)
    where
      just_zero : (l : List ℕ) → length l ≡ 1 → get_or l 0 0 ≡ 0 → l ≡ 0 ∷ []
      just_zero [] e h = absurd (omega arith)
      just_zero (x ∷ []) e h = rw h
      just_zero (x ∷ y ∷ ys) e h = absurd (omega arith)

  -- a side ascends, whether it holds just the empty set or others
  pub side_ascending : Ascending (sets_in sides a)
  side_ascending = elim (dec_eq a empty) [
    | yes e ↦ rw (side_just_empty e) (one_ascends 0)
    | no d ↦ above_ascending 0 (sets_in sides a) (plain_side_ok d).0
  ]

-- whatever the counts are, the sides are as they have to be but for them
pub other_counts : (sides : Sides) (counts : List ℕ) (empty : ℕ) → OrderlySides sides empty → OrderlySides (with_counts sides counts) empty
unfolding sides_ok
other_counts sides counts empty o = record { masks_long = o.masks_long; lengths_long = o.lengths_long; all_ok = o.all_ok }

pub fit_whatever_counts : (sides : Sides) (counts : List ℕ) → SidesFit (with_counts sides counts) → SidesFit sides
fit_whatever_counts sides counts f = record { masks_long = f.masks_long; lengths_long = f.lengths_long; at_most = f.at_most }

-- a place of the counts past a side's sets is zero
pub counts_past : (sides : Sides) → OrderlyCounts sides → (a : ℕ) → a < activities → zeros (drop (get_or sides.lengths a 0) (block sides.counts a)) ≡ true
unfolding counts_ok
counts_past sides o a h = below_at activities (λ b. zeros (drop (get_or sides.lengths b 0) (block sides.counts b))) a h o.all_zero

pub past_counts : (sides : Sides) → length sides.counts ≡ places → ((a : ℕ) → a < activities → zeros (drop (get_or sides.lengths a 0) (block sides.counts a)) ≡ true) → OrderlyCounts sides
unfolding counts_ok
past_counts sides long f = record { counts_long = long; all_zero = below_true activities (λ b. zeros (drop (get_or sides.lengths b 0) (block sides.counts b))) f }

pub sides_of_orderly : (sides : Sides) (empty : ℕ) → OrderlySides sides empty → SidesFit sides
sides_of_orderly sides empty o = record { masks_long = o.masks_long; lengths_long = o.lengths_long; at_most = side_at_most sides empty o }
