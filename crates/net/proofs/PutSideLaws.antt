-- Laws of a put on one side: what an accepted one leaves on each side of its kind, that every side stays as it has to be, by how
-- much the lengths grow, and that every count stays with its set and the set's place where it was found. Each is by cases on the
-- answer. Assumes nothing.
use Prim.Native.Nat.{ℕ, ◌+◌, ◌*◌, ◌-◌, ◌<◌, ◌≤◌}
use native.Mathlib.Decide.{ℕ_discrete as dec_eq, dec_lt}
use native.Mathlib.Omega.{arith}
use mathlib.Core.Path.{◌≡◌, refl, sym, ◌∙◌}
use mathlib.Core.Bool.{Bool, true, false, cond, not, ◌&&◌, ◌||◌, or-false, or_comm}
use mathlib.Core.Logic.{◌⊎◌, inl, inr, ⊎_elim, ◌↔◌}
use mathlib.Core.List.{List, [], ◌∷◌}
use lib.Dec.{ltb, eqb}
use lib.ListN.{length, take, drop, get_or, get_or-eq_default}
use borrow.Author.Tests.{eqb-true, eqb-false, not-false, eq-eqb, ne_eqb, lt-ltb, le-ltb}
use Rattle.obligations.specs.Limits.{activities}
use Rattle.obligations.specs.Tests.{indicator}
use Rattle.obligations.specs.State.{total}
use Rattle.obligations.proofs.BoolLaws.{true_or_false, false-not-true, and_left, and_right, or_right, or_cases}
use Rattle.obligations.proofs.TotalLaws.{total-raise}
use Rattle.net.specs.Limits.{sets, places}
use Rattle.net.specs.Refusals.{Says, accepted, misplaced_set, full_side}
use Rattle.net.specs.Chains.{unless}
use Rattle.net.specs.Lists.{listed, place_in, insert_at, insert, splice}
use Rattle.net.specs.Sides.{first_of, sets_in, counts_in, count_in, place_on}
use Rattle.net.specs.Inner.{OrderlySides}
use Rattle.net.specs.Put.{misplaced, side_says, grows, grown_sides, put_sides}
use Rattle.net.specs.declared.sides.Sides.{Sides}
use Rattle.net.proofs.ListLaws.{one_listed}
use Rattle.net.proofs.InsertLaws.{listed-insert, place-within, place-insert, splice-insert}
use Rattle.net.proofs.PlaceLaws.{listed-place, place-listed, count-insert, total-insert}
use Rattle.net.proofs.SideLaws.{OrderlyCounts, length-first, first-at, side_at_most, side_just_empty, side_ascending}
use Rattle.net.proofs.GrownLaws.{grown_side_same, grown_side_other, grown_orderly_sides, grown_counts_same, grown_counts_other, grown_orderly_counts}

-- ---- the answers

-- what is said, by the three tests: misplaced, there already, full
abbrev chain : Bool → Bool → Bool → Says
chain q r s = unless (not q) misplaced_set (unless (r || not s) full_side (accepted (indicator (not r))))

chain_accepted : (q r s : Bool) → (chain q r s).ok ≡ true → (r ≡ true) ⊎ (grows (chain q r s) ≡ true)
unfolding grows
chain_accepted true r s e = absurd (false-not-true refl e)
chain_accepted false true s e = inl refl
chain_accepted false false true e = absurd (false-not-true refl e)
chain_accepted false false false e = inr refl

chain_grows : (q r s : Bool) → grows (chain q r s) ≡ true → (q ≡ false) × (r ≡ false) × (s ≡ false)
unfolding grows
chain_grows true r s e = absurd (false-not-true refl e)
chain_grows false true s e = absurd (false-not-true refl e)
chain_grows false false true e = absurd (false-not-true refl e)
chain_grows false false false e = (refl, refl, refl)

chain_full : (r s : Bool) → (chain false r s).ok ≡ false → (r ≡ false) × (s ≡ true)
chain_full true s e = absurd (false-not-true e refl)
chain_full false true e = (refl, refl)
chain_full false false e = absurd (false-not-true e refl)

chain_value : (q r s : Bool) → (chain q r s).value ≤ 1
chain_value true r s = omega arith
chain_value false true s = omega arith
chain_value false false true = omega arith
chain_value false false false = omega arith

chain_total : (q r s : Bool) (sides grown : Sides) → total grown.lengths ≡ total sides.lengths + 1
    → total (cond (grows (chain q r s)) grown sides).lengths ≡ total sides.lengths + (chain q r s).value
unfolding grows
chain_total true r s sides grown e = omega arith
chain_total false true s sides grown e = omega arith
chain_total false false true sides grown e = omega arith
chain_total false false false sides grown e = e

-- a set that is new and not misplaced isn't empty, and its side isn't the one that holds just the empty set
new_plain : (empty a m : ℕ) (l : List ℕ) → misplaced empty a m ≡ false → listed m l ≡ false → (a ≡ empty → l ≡ 0 ∷ []) → (a ≡ empty → ⊥) × (0 < m)
unfolding misplaced
new_plain empty a m l p n j = elim (dec_eq m 0) [
  | yes e ↦
      let q : eqb a empty ≡ true = not-false (eqb a empty) (rw (eq-eqb m 0 e) at p) in
      absurd (false-not-true n (rw (j (eqb-true a empty q), e) (one_listed 0)))
  | no e ↦ (eqb-false a empty (rw (ne_eqb m 0 e) at p), omega arith)
]

-- a set that is empty exactly on the side that holds just the empty set isn't misplaced
pub placed_one : (empty a m : ℕ) → (m ≡ 0) ↔ (a ≡ empty) → misplaced empty a m ≡ false
unfolding misplaced
placed_one empty a m f = elim (dec_eq m 0) [
  | yes e ↦ rw (eq-eqb m 0 e, eq-eqb a empty (f.0 e))
  | no d ↦ rw (ne_eqb m 0 d) (ne_eqb a empty (λ q. d (f.1 q)))
]

module _ (sides : Sides) (empty a m : ℕ) where
  -- a set that isn't misplaced and is refused finds the side full
  pub refused_full : misplaced empty a m ≡ false → (side_says sides empty a m).ok ≡ false → (listed m (sets_in sides a) ≡ false) × (get_or sides.lengths a 0 ≡ sets)
  unfolding side_says
  refused_full p k =
      let f = chain_full (listed m (sets_in sides a)) (eqb (get_or sides.lengths a 0) sets) (rw p at k) in (f.0, eqb-true (get_or sides.lengths a 0) sets f.1)

  -- a put adds one set at most
  pub side_value : (side_says sides empty a m).value ≤ 1
  unfolding side_says
  side_value = chain_value (misplaced empty a m) (listed m (sets_in sides a)) (eqb (get_or sides.lengths a 0) sets)

  -- an accepted set was there already, or is new
  pub accepted_cases : (side_says sides empty a m).ok ≡ true → (listed m (sets_in sides a) ≡ true) ⊎ (grows (side_says sides empty a m) ≡ true)
  unfolding side_says
  accepted_cases e = chain_accepted (misplaced empty a m) (listed m (sets_in sides a)) (eqb (get_or sides.lengths a 0) sets) e

  -- a refused put leaves the sides as they were
  pub put_side_refused : (side_says sides empty a m).ok ≡ false → put_sides sides empty a m ≡ sides
  unfolding put_sides grows
  put_side_refused f = rw f

  pub grows_new : grows (side_says sides empty a m) ≡ true → (misplaced empty a m ≡ false) × (listed m (sets_in sides a) ≡ false) × (get_or sides.lengths a 0 ≡ sets → ⊥)
  unfolding side_says
  grows_new e = let f = chain_grows (misplaced empty a m) (listed m (sets_in sides a)) (eqb (get_or sides.lengths a 0) sets) e in (f.0, f.1, eqb-false (get_or sides.lengths a 0) sets f.2)

-- ---- the lengths

-- the value said is the growth of the lengths
pub put_side-total : (sides : Sides) (empty a m : ℕ) → a < length sides.lengths → total (put_sides sides empty a m).lengths ≡ total sides.lengths + (side_says sides empty a m).value
unfolding put_sides side_says
put_side-total sides empty a m h =
    chain_total (misplaced empty a m) (listed m (sets_in sides a)) (eqb (get_or sides.lengths a 0) sets) sides (grown_sides sides a m) (total-raise sides.lengths a h)

-- ---- where the set stands

module _ (sides : Sides) (empty a m : ℕ) (o : OrderlySides sides empty) (h : a < activities) where
  -- its place is one of the side's, or the one behind them
  pub place_in_side : place_on sides a m ≤ sets * a + get_or sides.lengths a 0
  place_in_side =
      omega (arith, place-within m (sets_in sides a), length-first sides.masks a _ o.masks_long h (side_at_most sides empty o a h))

  -- it stands there if it is one of the side's
  stands_there : (ltb (place_on sides a m) (sets * a + get_or sides.lengths a 0) && eqb (get_or sides.masks (place_on sides a m) 0) m) ≡ listed m (sets_in sides a)
  stands_there = elim (true_or_false (listed m (sets_in sides a))) [
    | inl t ↦
        let f = listed-place m (sets_in sides a) (side_ascending sides empty o a h) t in
        let l : place_in m (sets_in sides a) < get_or sides.lengths a 0 = omega (arith, f.0, long) in
        rw (t, lt-ltb (place_on sides a m) (sets * a + get_or sides.lengths a 0) (omega arith)) (eq-eqb (get_or sides.masks (place_on sides a m) 0) m (sym (first-at sides.masks a _ (place_in m (sets_in sides a)) l) ∙ f.1))
    | inr t ↦ rw t (absent t)
  ]
    where
      long : length (sets_in sides a) ≡ get_or sides.lengths a 0
      long = length-first sides.masks a _ o.masks_long h (side_at_most sides empty o a h)

      absent : listed m (sets_in sides a) ≡ false
          → (ltb (place_on sides a m) (sets * a + get_or sides.lengths a 0) && eqb (get_or sides.masks (place_on sides a m) 0) m) ≡ false
      absent t = elim (dec_lt (place_on sides a m) (sets * a + get_or sides.lengths a 0)) [
        | yes l ↦
            rw (lt-ltb (place_on sides a m) (sets * a + get_or sides.lengths a 0) l)
            (ne_eqb (get_or sides.masks (place_on sides a m) 0) m
            (λ e.
            false-not-true t
            (place-listed m (place_in m (sets_in sides a)) (sets_in sides a) (omega (arith, long))
            (first-at sides.masks a _ (place_in m (sets_in sides a)) (omega arith) ∙ e))))
        | no l ↦ rw (le-ltb (place_on sides a m) (sets * a + get_or sides.lengths a 0) (omega arith))
      ]

  pub stands_at_place : (x to : ℕ) → x ≡ place_on sides a m → to ≡ sets * a + get_or sides.lengths a 0 → (ltb x to && eqb (get_or sides.masks x 0) m) ≡ listed m (sets_in sides a)
  stands_at_place x to p q = rw (p, q) stands_there

  -- an insertion there is the one into the side's part, in the masks and in the counts
  pub inserted : (list : List ℕ) (x : ℕ) → length list ≡ places → get_or sides.lengths a 0 < sets
      → splice list (place_on sides a m) (x ∷ take (sets * a + get_or sides.lengths a 0 - place_on sides a m) (drop (place_on sides a m) list))
      ≡ splice list (sets * a) (insert_at (place_in m (sets_in sides a)) x (first_of list a (get_or sides.lengths a 0)))
  inserted list x long room = splice-insert list (sets * a) (get_or sides.lengths a 0) (place_in m (sets_in sides a)) x (omega (arith, place_in_side)) (omega arith)

-- ---- the sides

module _ (sides : Sides) (empty a m : ℕ) (o : OrderlySides sides empty) (h : a < activities) where
  pub has_room_lem : grows (side_says sides empty a m) ≡ true → get_or sides.lengths a 0 < sets
  has_room_lem g = let d = (grows_new sides empty a m g).2 in omega (arith, side_at_most sides empty o a h)

  -- a set that is accepted has its place among those of this kind of side
  pub place_below : (side_says sides empty a m).ok ≡ true → place_on sides a m < places
  place_below ok =
      ⊎_elim
      (λ t. omega (arith, (listed-place m (sets_in sides a) (side_ascending sides empty o a h) t).0, length-first sides.masks a _ o.masks_long h (side_at_most sides empty o a h), side_at_most sides empty o a h))
      (λ g. omega (arith, place_in_side sides empty a m o h, has_room_lem g))
      (accepted_cases sides empty a m ok)

  pub put_side_orderly : OrderlySides (put_sides sides empty a m) empty
  unfolding put_sides
  put_side_orderly = ⊎_elim (λ g. rw g (grown g)) (λ g. rw g o) (true_or_false (grows (side_says sides empty a m)))
    where
      grown : grows (side_says sides empty a m) ≡ true → OrderlySides (grown_sides sides a m) empty
      grown g =
          let f = grows_new sides empty a m g in
          let p = new_plain empty a m (sets_in sides a) f.0 f.1 (side_just_empty sides empty o a h) in
          grown_orderly_sides sides a m h (has_room_lem g) empty o p.0 p.1 f.1

  pub all_at_most : (b : ℕ) → get_or sides.lengths b 0 ≤ sets
  all_at_most b = elim (dec_lt b activities) [
    | yes l ↦ side_at_most sides empty o b l
    | no l ↦ rw (get_or-eq_default sides.lengths 0 {n = b} (omega (arith, o.lengths_long))) (omega arith)
  ]

  put_side_listed : (side_says sides empty a m).ok ≡ true → (b x : ℕ)
      → listed x (sets_in (put_sides sides empty a m) b) ≡ (listed x (sets_in sides b) || (eqb b a && eqb m x))
  unfolding put_sides
  put_side_listed ok b x = ⊎_elim (λ g. rw g (grown g)) (λ g. rw g (kept g)) (true_or_false (grows (side_says sides empty a m)))
    where
      grown : grows (side_says sides empty a m) ≡ true
          → listed x (sets_in (grown_sides sides a m) b) ≡ (listed x (sets_in sides b) || (eqb b a && eqb m x))
      grown g = elim (dec_eq b a) [
        | yes e ↦
            rw (e, grown_side_same sides a m h (has_room_lem g) o.masks_long (omega (arith, o.lengths_long)), listed-insert x m (sets_in sides a), eq-eqb a a refl)
            (or_comm (eqb m x) (listed x (sets_in sides a)))
        | no d ↦ rw (grown_side_other sides a m h (has_room_lem g) o.masks_long b d (all_at_most b), ne_eqb b a d) (sym (or-false _))
      ]

      absorb : (p q : Bool) → (q ≡ true → p ≡ true) → p ≡ (p || q)
      absorb true q e = refl
      absorb false true e = e refl
      absorb false false e = refl

      there : grows (side_says sides empty a m) ≡ false → listed m (sets_in sides a) ≡ true
      there g = ⊎_elim (λ e. e) (λ e. absurd (false-not-true g e)) (accepted_cases sides empty a m ok)

      kept : grows (side_says sides empty a m) ≡ false → listed x (sets_in sides b) ≡ (listed x (sets_in sides b) || (eqb b a && eqb m x))
      kept g =
          absorb (listed x (sets_in sides b)) (eqb b a && eqb m x)
          (λ e. rw (eqb-true b a (and_left (eqb b a) (eqb m x) e), sym (eqb-true m x (and_right (eqb b a) (eqb m x) e))) (there g))

  -- after an accepted put each side holds what it held, and a's side m too
  pub put_side_holds : (side_says sides empty a m).ok ≡ true → (b x : ℕ)
      → (listed x (sets_in (put_sides sides empty a m) b) ≡ true) ↔ ((listed x (sets_in sides b) ≡ true) ⊎ ((b ≡ a) × (x ≡ m)))
  put_side_holds ok b x = (
    (λ e. ⊎_elim (λ t. inl t) (λ t. inr (apart t)) (or_cases (listed x (sets_in sides b)) (eqb b a && eqb m x) (sym (put_side_listed ok b x) ∙ e))),
    (λ w. put_side_listed ok b x ∙ ⊎_elim (λ t. rw t) (λ t. or_right (listed x (sets_in sides b)) (together t)) w),
  )
    where
      apart : (eqb b a && eqb m x) ≡ true → (b ≡ a) × (x ≡ m)
      apart t = (eqb-true b a (and_left (eqb b a) (eqb m x) t), sym (eqb-true m x (and_right (eqb b a) (eqb m x) t)))

      together : (b ≡ a) × (x ≡ m) → (eqb b a && eqb m x) ≡ true
      together t = rw (eq-eqb b a t.0, eq-eqb m x (sym t.1))

-- ---- the counts

module _ (sides : Sides) (empty a m : ℕ) (o : OrderlySides sides empty) (c : OrderlyCounts sides) (h : a < activities) where
  abbrev after : Sides
  after = put_sides sides empty a m

  inside : a < length sides.lengths
  inside = omega (arith, o.lengths_long)

  -- each set keeps its count, and a new one has 0
  pub put_side_count : (b x : ℕ) → count_in x (sets_in after b) (counts_in after b) ≡ count_in x (sets_in sides b) (counts_in sides b)
  unfolding put_sides insert
  put_side_count b x = ⊎_elim (λ g. rw g (grown g)) (λ g. rw g) (true_or_false (grows (side_says sides empty a m)))
    where
      grown : grows (side_says sides empty a m) ≡ true
          → count_in x (sets_in (grown_sides sides a m) b) (counts_in (grown_sides sides a m) b)
          ≡ count_in x (sets_in sides b) (counts_in sides b)
      grown g =
          let room = has_room_lem sides empty a m o h g in
          let few = side_at_most sides empty o a h in
          elim (dec_eq b a) [
            | yes e ↦
                rw (e, grown_side_same sides a m h room o.masks_long inside, grown_counts_same sides a m h room c inside)
                (count-insert x (place_in m (sets_in sides a)) m (sets_in sides a) (counts_in sides a)
                (length-first sides.counts a _ c.counts_long h few ∙ sym (length-first sides.masks a _ o.masks_long h few)) (grows_new sides empty a m g).1)
            | no d ↦ rw (grown_side_other sides a m h room o.masks_long b d (all_at_most sides empty a m o h b), grown_counts_other sides a m h room c b d (all_at_most sides empty a m o h b))
          ]

  pub put_side_counted : OrderlyCounts after
  unfolding put_sides
  put_side_counted =
      ⊎_elim (λ g. rw g (grown_orderly_counts sides a m h (has_room_lem sides empty a m o h g) c inside)) (λ g. rw g c)
      (true_or_false (grows (side_says sides empty a m)))

  pub put_side_sum : (b : ℕ) → total (counts_in after b) ≡ total (counts_in sides b)
  unfolding put_sides
  put_side_sum b = ⊎_elim (λ g. rw g (grown g)) (λ g. rw g) (true_or_false (grows (side_says sides empty a m)))
    where
      grown : grows (side_says sides empty a m) ≡ true → total (counts_in (grown_sides sides a m) b) ≡ total (counts_in sides b)
      grown g =
          let room = has_room_lem sides empty a m o h g in
          elim (dec_eq b a) [
            | yes e ↦ rw (e, grown_counts_same sides a m h room c inside) (total-insert (place_in m (sets_in sides a)) (counts_in sides a))
            | no d ↦ rw (grown_counts_other sides a m h room c b d (all_at_most sides empty a m o h b))
          ]

-- ---- a put keeps the set's place

pub place_kept : (sides : Sides) (empty a m : ℕ) → OrderlySides sides empty → a < activities
    → place_on (put_sides sides empty a m) a m ≡ place_on sides a m
unfolding put_sides
place_kept sides empty a m o h =
    ⊎_elim (λ g. rw g (grown g)) (λ g. rw g) (true_or_false (grows (side_says sides empty a m)))
  where
    grown : grows (side_says sides empty a m) ≡ true → place_on (grown_sides sides a m) a m ≡ place_on sides a m
    grown g = rw (grown_side_same sides a m h (has_room_lem sides empty a m o h g) o.masks_long (omega (arith, o.lengths_long)), place-insert m (sets_in sides a))
