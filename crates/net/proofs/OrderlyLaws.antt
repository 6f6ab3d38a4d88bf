-- The test of an orderly record agrees with the facts in the paper's words, both ways; each fact is one part of the
-- test. Assumes nothing.
use Prim.Native.Nat.{ℕ, zero, suc, ◌+◌, ◌*◌, ◌<◌, ◌≤◌}
use native.Mathlib.Nat.{le_refl, not-suc-le-zero}
use native.Mathlib.Numerals.{add-one}
use native.Mathlib.Decide.{ℕ_discrete as dec_eq, dec_lt}
use native.Mathlib.Omega.{arith}
use mathlib.Core.Path.{◌≡◌, refl, sym, ap, ◌∙◌}
use mathlib.Core.Bool.{Bool, true, false, ◌&&◌, not}
use mathlib.Core.List.{List, [], ◌∷◌}
use lib.Dec.{ltb, eqb}
use lib.ListN.{length, drop, get_or}
use borrow.Author.Tests.{ltb-true, eqb-true, eqb-false, not-true, lt-ltb, le-leb, eq-eqb, ne_eqb}
use Rattle.obligations.specs.Limits.{activities}
use Rattle.obligations.proofs.BoolLaws.{and_left, and_right, false-not-true}
use Rattle.net.specs.Limits.{sets, places}
use Rattle.net.specs.Lists.{listed, zeros, ascends_above}
use Rattle.net.specs.Sides.{sides_of, masks_of, lengths_of, counts_of, empty_at, block, sets_on, OnSide}
use Rattle.net.specs.Inner.{SidesFit, OrderlySides}
use Rattle.net.specs.Orderly.{block_ok, ends_ok, sides_ok, counts_ok, kind_ok, sides_sized, sized, orderly, SideOrderly, Orderly}
use Rattle.net.specs.declared.Net.{Net}
use Rattle.net.specs.declared.sides.Side.{Side}
use Rattle.net.specs.declared.sides.Sides.{Sides}
use Rattle.net.specs.declared.sides.Side.TheVariants.{Input, Output}
use Rattle.net.proofs.BelowLaws.{below_true}
use Rattle.net.proofs.ListLaws.{none_listed, ascends-at, at-ascends, ascends-not-listed, zeros-at, at_zeros}
use Rattle.net.proofs.SideLaws.{OrderlyCounts, past-zero, zero-past, counts_past, past_counts, block_at, length-block, length-first, block-first, first-at, side_beyond, side_at_most, empty_side_ok, plain_side_ok, side_just_empty, sides_of_orderly}

-- ---- the ends

pub ends_facts : (start end : ℕ) → ends_ok start end ≡ true → (start < activities) × (end < activities) × (start ≡ end → ⊥)
unfolding ends_ok
ends_facts start end h =
    let n = not (eqb start end) in
    let t = and_right (ltb start activities) (ltb end activities && n) h in (
      ltb-true start activities (and_left (ltb start activities) (ltb end activities && n) h),
      ltb-true end activities (and_left (ltb end activities) n t),
      eqb-false start end (not-true (eqb start end) (and_right (ltb end activities) n t)),
    )

pub facts_ends : (start end : ℕ) → start < activities → end < activities → (start ≡ end → ⊥) → ends_ok start end ≡ true
unfolding ends_ok
facts_ends start end h k d = rw (lt-ltb start activities h, lt-ltb end activities k, ne_eqb start end d)

-- ---- the parts of the test

module _ (net : Net) (h : orderly net ≡ true) where
  both : Bool
  both = kind_ok net.inputs net.start && kind_ok net.outputs net.end

  orderly_sized : sized net ≡ true
  unfolding orderly both
  orderly_sized = and_left (sized net) (ends_ok net.start net.end && both) h

  beside_size : (ends_ok net.start net.end && both) ≡ true
  unfolding orderly both
  beside_size = and_right (sized net) (ends_ok net.start net.end && both) h

  pub orderly_ends : ends_ok net.start net.end ≡ true
  orderly_ends = and_left (ends_ok net.start net.end) both beside_size

  orderly_both : both ≡ true
  orderly_both = and_right (ends_ok net.start net.end) both beside_size

  orderly_kind : (side : Side) → kind_ok (sides_of net side) (empty_at net side) ≡ true
  unfolding both
  orderly_kind Input = and_left _ (kind_ok net.outputs net.end) orderly_both
  orderly_kind Output = and_right (kind_ok net.inputs net.start) _ orderly_both

  orderly_oks : (side : Side) → sides_ok (sides_of net side) (empty_at net side) ≡ true
  unfolding kind_ok
  orderly_oks side = and_left (sides_ok (sides_of net side) (empty_at net side)) (counts_ok (sides_of net side)) (orderly_kind side)

  counts_oks : (side : Side) → counts_ok (sides_of net side) ≡ true
  unfolding kind_ok
  counts_oks side = and_right (sides_ok (sides_of net side) (empty_at net side)) (counts_ok (sides_of net side)) (orderly_kind side)

  side_sized : (side : Side) → sides_sized (sides_of net side) ≡ true
  unfolding sized
  side_sized Input = and_left _ (sides_sized net.outputs) orderly_sized
  side_sized Output = and_right (sides_sized net.inputs) _ orderly_sized

  masks_long : (side : Side) → length (masks_of net side) ≡ places
  masks_long side = eqb-true _ _ (and_left (eqb (length (masks_of net side)) places) (eqb (length (lengths_of net side)) activities && eqb (length (counts_of net side)) places) (side_sized side))

  beside_masks : (side : Side) → (eqb (length (lengths_of net side)) activities && eqb (length (counts_of net side)) places) ≡ true
  beside_masks side = and_right (eqb (length (masks_of net side)) places) (eqb (length (lengths_of net side)) activities && eqb (length (counts_of net side)) places) (side_sized side)

  lengths_long : (side : Side) → length (lengths_of net side) ≡ activities
  lengths_long side = eqb-true _ _ (and_left (eqb (length (lengths_of net side)) activities) (eqb (length (counts_of net side)) places) (beside_masks side))

  counts_long : (side : Side) → length (counts_of net side) ≡ places
  counts_long side = eqb-true _ _ (and_right (eqb (length (lengths_of net side)) activities) (eqb (length (counts_of net side)) places) (beside_masks side))

  pub orderly_counts : (side : Side) → OrderlyCounts (sides_of net side)
  orderly_counts side = record { counts_long = counts_long side; all_zero = counts_oks side }

  pub orderly_sides : (side : Side) → OrderlySides (sides_of net side) (empty_at net side)
  orderly_sides side = record { masks_long = masks_long side; lengths_long = lengths_long side; all_ok = orderly_oks side }

  pub orderly_fit : (side : Side) → SidesFit (sides_of net side)
  orderly_fit side = sides_of_orderly (sides_of net side) (empty_at net side) (orderly_sides side)

  pub orderly_at_most : (side : Side) (a : ℕ) → a < activities → get_or (lengths_of net side) a 0 ≤ sets
  orderly_at_most side a k = side_at_most (sides_of net side) (empty_at net side) (orderly_sides side) a k

  -- a number above 31 has no sets
  pub sets_beyond : (side : Side) (a : ℕ) → activities ≤ a → sets_on net side a ≡ []
  sets_beyond side a k = side_beyond (sides_of net side) a (lengths_long side) k

  pub on_side_activity : (side : Side) (a m : ℕ) → OnSide net side a m → a < activities
  on_side_activity side a m k = elim (dec_lt a activities) [
    | yes l ↦ l
    | no l ↦ absurd (false-not-true (none_listed m) (rw (sets_beyond side a (omega arith)) at k))
  ]

  pub sets_length : (side : Side) (a : ℕ) → a < activities → length (sets_on net side a) ≡ get_or (lengths_of net side) a 0
  sets_length side a k = length-first (masks_of net side) a _ (masks_long side) k (orderly_at_most side a k)

pub parts_orderly : (net : Net) → ends_ok net.start net.end ≡ true → ((side : Side) → OrderlySides (sides_of net side) (empty_at net side))
    → ((side : Side) → OrderlyCounts (sides_of net side)) → orderly net ≡ true
unfolding orderly sized kind_ok
parts_orderly net e o c =
    rw (
      eq-eqb (length net.inputs.masks) places (o Input).masks_long,
      eq-eqb (length net.outputs.masks) places (o Output).masks_long,
      eq-eqb (length net.inputs.lengths) activities (o Input).lengths_long,
      eq-eqb (length net.outputs.lengths) activities (o Output).lengths_long,
      eq-eqb (length net.inputs.counts) places (c Input).counts_long,
      eq-eqb (length net.outputs.counts) places (c Output).counts_long,
      e,
      (o Input).all_ok,
      (o Output).all_ok,
      (c Input).all_zero,
      (c Output).all_zero,
    )

-- of a record whose arrays are as long as they have to be, the rest of the test
pub sides_long : (sides : Sides) → length sides.masks ≡ places → length sides.lengths ≡ activities → length sides.counts ≡ places → sides_sized sides ≡ true
sides_long sides m l c = rw (eq-eqb _ _ m, eq-eqb _ _ l, eq-eqb _ _ c)

pub sized_orderly : (net : Net) → sides_sized net.inputs ≡ true → sides_sized net.outputs ≡ true
    → orderly net ≡ (ends_ok net.start net.end && (kind_ok net.inputs net.start && kind_ok net.outputs net.end))
unfolding orderly sized
sized_orderly net i o = rw (i, o)

-- a record fails by its ends or its input sides alone
none_beside : (b : Bool) → (b && false) ≡ false
none_beside true = refl
none_beside false = refl

pub bad_ends : (net : Net) → ends_ok net.start net.end ≡ false → orderly net ≡ false
unfolding orderly
bad_ends net e = rw e (none_beside (sized net))

pub bad_inputs : (net : Net) → ends_ok net.start net.end ≡ true → kind_ok net.inputs net.start ≡ false → orderly net ≡ false
unfolding orderly
bad_inputs net e f = rw (e, f) (none_beside (sized net))

-- ---- the test gives the facts

module _ (net : Net) (o : orderly net ≡ true) (side : Side) (a : ℕ) (h : a < activities) where
  sides_here : OrderlySides (sides_of net side) (empty_at net side)
  sides_here = orderly_sides net o side

  counts_zero : (i : ℕ) → get_or (lengths_of net side) a 0 ≤ i → i < sets → get_or (counts_of net side) (sets * a + i) 0 ≡ 0
  counts_zero i l k = past-zero (counts_of net side) a (get_or (lengths_of net side) a 0) i (counts_past (sides_of net side) (orderly_counts net o side) a h) l k

  empty_facts : a ≡ empty_at net side → SideOrderly net side a
  empty_facts e =
      let f = empty_side_ok (sides_of net side) (empty_at net side) sides_here a h e in
      record {
        at_most = omega (arith, f.0);
        ascending = λ i l. absurd (omega (arith, f.0));
        just_empty = side_just_empty (sides_of net side) (empty_at net side) sides_here a h;
        never_empty = λ d. absurd (d e);
        unused_zero = λ i l k. sym (block_at (masks_of net side) a i k) ∙ zeros-at (block (masks_of net side) a) f.1 i;
        unused_uncounted = counts_zero;
      }

  plain_facts : (a ≡ empty_at net side → ⊥) → SideOrderly net side a
  plain_facts d =
      let f = plain_side_ok (sides_of net side) (empty_at net side) sides_here a h d in
      record {
        at_most = orderly_at_most net o side a h;
        ascending = λ i l. ascends-at 0 (sets_on net side a) f.0 i (omega (arith, sets_length net o side a h));
        just_empty = λ e. absurd (d e);
        never_empty = λ q. ascends-not-listed 0 0 (sets_on net side a) (le_refl 0) f.0;
        unused_zero = λ i l k. past-zero (masks_of net side) a (get_or (lengths_of net side) a 0) i f.1 l k;
        unused_uncounted = counts_zero;
      }

  pub orderly_side : SideOrderly net side a
  orderly_side = elim (dec_eq a (empty_at net side)) [ yes e ↦ empty_facts e | no d ↦ plain_facts d ]

pub orderly_facts : (net : Net) → orderly net ≡ true → Orderly net
orderly_facts net h =
    let e = ends_facts net.start net.end (orderly_ends net h) in
    record {
      masks_long = λ side. (orderly_sides net h side).masks_long;
      lengths_long = λ side. (orderly_sides net h side).lengths_long;
      counts_long = λ side. (orderly_counts net h side).counts_long;
      start_activity = e.0;
      end_activity = e.1;
      differ = e.2;
      sides = orderly_side net h;
    }

-- ---- the facts give the test

module _ (net : Net) (side : Side) (a : ℕ) (h : a < activities) (long : length (masks_of net side) ≡ places) (f : SideOrderly net side a) where
  length_here : length (sets_on net side a) ≡ get_or (lengths_of net side) a 0
  length_here = length-first (masks_of net side) a _ long h f.at_most

  first_above : (l : List ℕ) → listed 0 l ≡ false → 0 < length l → 0 < get_or l 0 0
  unfolding listed
  first_above [] e k = absurd (not-suc-le-zero k)
  first_above (zero ∷ xs) e k = absurd (false-not-true e refl)
  first_above (suc x ∷ xs) e k = omega arith

  facts_ascend : (a ≡ empty_at net side → ⊥) → ascends_above 0 (sets_on net side a) ≡ true
  facts_ascend d =
      at-ascends 0 (sets_on net side a) (first_above (sets_on net side a) (f.never_empty d))
      (λ i l. rw add-one at (f.ascending i (omega (arith, length_here))))

  empty_zeros : a ≡ empty_at net side → zeros (block (masks_of net side) a) ≡ true
  empty_zeros e = at_zeros (block (masks_of net side) a) (λ i l. let k : i < sets = omega (arith, length-block (masks_of net side) a long h) in block_at (masks_of net side) a i k ∙ place i k)
    where
      one : get_or (lengths_of net side) a 0 ≡ 1
      one = sym length_here ∙ ap length (f.just_empty e)

      place : (i : ℕ) → i < sets → get_or (masks_of net side) (sets * a + i) 0 ≡ 0
      place zero k = sym (first-at (masks_of net side) a _ 0 (omega (arith, one))) ∙ ap (λ (l : List ℕ). get_or l 0 0) (f.just_empty e)
      place (suc i) k = f.unused_zero (suc i) (omega (arith, one)) k

  plain_zeros : zeros (drop (get_or (lengths_of net side) a 0) (block (masks_of net side) a)) ≡ true
  plain_zeros = zero-past (masks_of net side) a (get_or (lengths_of net side) a 0) long h f.unused_zero

  facts_block : block_ok (block (masks_of net side) a) (get_or (lengths_of net side) a 0) (eqb a (empty_at net side)) ≡ true
  unfolding block_ok
  facts_block = elim (dec_eq a (empty_at net side)) [
    | yes e ↦ rw (eq-eqb a (empty_at net side) e, eq-eqb (get_or (lengths_of net side) a 0) 1 (sym length_here ∙ ap length (f.just_empty e)), empty_zeros e)
    | no d ↦ rw (ne_eqb a (empty_at net side) d, le-leb (get_or (lengths_of net side) a 0) sets f.at_most, block-first (masks_of net side) a _ f.at_most, facts_ascend d, plain_zeros)
  ]

pub facts_orderly : (net : Net) → Orderly net → orderly net ≡ true
unfolding sides_ok
facts_orderly net f =
    parts_orderly net (facts_ends net.start net.end f.start_activity f.end_activity f.differ)
    (λ side.
    record {
      masks_long = f.masks_long side;
      lengths_long = f.lengths_long side;
      all_ok =
          below_true activities (λ a. block_ok (block (masks_of net side) a) (get_or (lengths_of net side) a 0) (eqb a (empty_at net side)))
          (λ a h. facts_block net side a h (f.masks_long side) (f.sides side a h));
    })
    (λ side. past_counts (sides_of net side) (f.counts_long side) (λ a h. zero-past (counts_of net side) a (get_or (lengths_of net side) a 0) (f.counts_long side) h (f.sides side a h).unused_uncounted))
