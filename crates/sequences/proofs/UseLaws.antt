-- A use of a set that is on a side: its count is the one at its place, and a raise there adds one to it and to the side's sum, and
-- touches nothing else. After a put and a raise every side is as it has to be but for its counts. Assumes nothing.
use Prim.Native.Nat.{ℕ, ◌+◌, ◌*◌, ◌-◌, ◌<◌, ◌≤◌}
use native.Mathlib.Decide.{ℕ_discrete as dec_eq, dec_lt}
use native.Mathlib.Omega.{arith}
use mathlib.Core.Path.{◌≡◌, refl, sym, ◌∙◌}
use mathlib.Core.Bool.{true, ◌&&◌}
use mathlib.Core.List.{List}
use mathlib.Core.Logic.{◌↔◌, ⊎_elim}
use lib.Dec.{eqb, ltb}
use lib.ListN.{length, take, drop, get_or, set, length-set}
use lib.Seq.{take-set-le, take-set-lt, drop-set-lt, drop-set-add}
use borrow.Author.Tests.{eq-eqb, ne_eqb, ltb-true, lt-ltb}
use Rattle.obligations.specs.Limits.{activities}
use Rattle.obligations.specs.Tests.{indicator}
use Rattle.obligations.specs.State.{total}
use Rattle.obligations.proofs.BoolLaws.{true_or_false}
use Rattle.obligations.proofs.TotalLaws.{total-raise}
use Rattle.net.specs.Limits.{sets, most_uses}
use Rattle.net.specs.Lists.{listed, place_in}
use Rattle.net.specs.Sides.{with_counts, block, first_of, sets_in, counts_in, count_in, place_on}
use Rattle.net.specs.Inner.{OrderlySides}
use Rattle.net.specs.Put.{put_sides}
use Rattle.net.specs.declared.sides.Sides.{Sides}
use Rattle.net.proofs.PlaceLaws.{listed-place, count_at, count-raise}
use Rattle.net.proofs.SideLaws.{other_counts, OrderlyCounts, counts_past, past_counts, length-first, first-at, side_at_most, side_ascending}
use Rattle.net.proofs.PutSideLaws.{all_at_most, put_side_orderly}
use Rattle.sequences.specs.Gain.{raised_at, topped_at, used_sides}

-- ---- a store at place j of activity a

module _ (l : List ℕ) (a j v : ℕ) where
  store_own : (n : ℕ) → j < n → take n (drop (sets * a) (set l (sets * a + j) v)) ≡ set (take n (drop (sets * a) l)) j v
  store_own n h = rw (drop-set-add (sets * a) l j v) (take-set-lt n (drop (sets * a) l) j v h)

  store_other : (b n : ℕ) → (b ≡ a → ⊥) → n ≤ sets → j < sets → take n (drop (sets * b) (set l (sets * a + j) v)) ≡ take n (drop (sets * b) l)
  store_other b n d k h = elim (dec_lt b a) [
    | yes u ↦
        let e : sets * a + j ≡ sets * b + (sets * a + j - sets * b) = omega arith in
        rw (e, drop-set-add (sets * b) l (sets * a + j - sets * b) v) (take-set-le n (drop (sets * b) l) (sets * a + j - sets * b) v (omega arith))
    | no u ↦ rw (drop-set-lt (sets * b) l (sets * a + j) v (omega arith))
  ]

-- ---- a raise

module _ (sides : Sides) (empty a m : ℕ) (o : OrderlySides sides empty) (c : OrderlyCounts sides) (h : a < activities) (there : listed m (sets_in sides a) ≡ true) where
  abbrev place : ℕ
  place = place_in m (sets_in sides a)

  abbrev n : ℕ
  n = get_or sides.lengths a 0

  few : n ≤ sets
  few = side_at_most sides empty o a h

  inside : place < n
  inside = omega (arith, (listed-place m (sets_in sides a) (side_ascending sides empty o a h) there).0, length-first sides.masks a n o.masks_long h few)

  as_long : length (counts_in sides a) ≡ length (sets_in sides a)
  as_long = length-first sides.counts a n c.counts_long h few ∙ sym (length-first sides.masks a n o.masks_long h few)

  -- the count at the set's place is the set's
  abbrev count : ℕ
  count = get_or sides.counts (place_on sides a m) 0

  count_there : count ≡ count_in m (sets_in sides a) (counts_in sides a)
  count_there =
      sym (first-at sides.counts a n place inside) ∙ sym (count_at m (sets_in sides a) (counts_in sides a) (side_ascending sides empty o a h) as_long there)

  abbrev stored : List ℕ
  stored = set sides.counts (place_on sides a m) (count + 1)

  side_stored : first_of stored a n ≡ set (counts_in sides a) place (get_or (counts_in sides a) place 0 + 1)
  side_stored = rw (first-at sides.counts a n place inside) (store_own sides.counts a place (count + 1) n inside)

  other_stored : (b k : ℕ) → (b ≡ a → ⊥) → k ≤ sets → first_of stored b k ≡ first_of sides.counts b k
  other_stored b k d l = store_other sides.counts a place (count + 1) b k d l (omega (arith, inside, few))

  stored_orderly : OrderlyCounts (with_counts sides stored)
  stored_orderly =
      past_counts (with_counts sides stored) (length-set sides.counts _ _ ∙ c.counts_long)
      (λ b l. elim (dec_eq b a) [
        | yes e ↦ rw (e, store_own sides.counts a place (count + 1) sets (omega (arith, inside, few)), drop-set-lt n (block sides.counts a) place (count + 1) inside) (counts_past sides c a h)
        | no d ↦ rw (other_stored b sets d (omega arith)) (counts_past sides c b l)
      ])

  -- the sides after the raise
  abbrev raised : Sides
  raised = with_counts sides (raised_at sides.counts (place_on sides a m))

  pub raised_orderly : OrderlyCounts raised
  unfolding raised_at
  raised_orderly = ⊎_elim (λ t. rw t stored_orderly) (λ t. rw t c) (true_or_false (ltb count most_uses))

  -- it could be raised exactly if it is below its top
  pub topped_exactly : (topped_at sides.counts (place_on sides a m) ≡ 0) ↔ (count_in m (sets_in sides a) (counts_in sides a) < most_uses)
  unfolding topped_at
  topped_exactly = (
    (λ e. ⊎_elim (λ t. rw count_there at (ltb-true count most_uses t)) (λ t. absurd (let z = rw t at e in omega arith)) (true_or_false (ltb count most_uses))),
    (λ l. rw (count_there, lt-ltb _ _ l)),
  )

  module _ (t : topped_at sides.counts (place_on sides a m) ≡ 0) where
    was_stored : raised_at sides.counts (place_on sides a m) ≡ stored
    unfolding raised_at
    was_stored = rw (lt-ltb count most_uses (rw count_there (topped_exactly.0 t)))

    pub raised_count : (b x : ℕ) → count_in x (sets_in raised b) (counts_in raised b) ≡ count_in x (sets_in sides b) (counts_in sides b) + indicator (eqb a b && eqb m x)
    raised_count b x = elim (dec_eq b a) [
      | yes e ↦ rw (was_stored, e, eq-eqb a a refl, side_stored) (count-raise x m (sets_in sides a) (counts_in sides a) (side_ascending sides empty o a h) as_long there)
      | no d ↦ rw (was_stored, other_stored b (get_or sides.lengths b 0) d (all_at_most sides empty a m o h b), ne_eqb a b (λ e. d (sym e))) (omega arith)
    ]

    pub raised_sum : (b : ℕ) → total (counts_in raised b) ≡ total (counts_in sides b) + indicator (eqb a b)
    raised_sum b = elim (dec_eq b a) [
      | yes e ↦ rw (was_stored, e, eq-eqb a a refl, side_stored) (total-raise (counts_in sides a) place (omega (arith, inside, length-first sides.counts a n c.counts_long h few)))
      | no d ↦ rw (was_stored, other_stored b (get_or sides.lengths b 0) d (all_at_most sides empty a m o h b), ne_eqb a b (λ e. d (sym e))) (omega arith)
    ]

-- ---- a put and a raise

-- after them every side is as it has to be but for its counts
pub used_orderly : (sides : Sides) (empty a m : ℕ) → OrderlySides sides empty → a < activities → OrderlySides (used_sides sides empty a m) empty
used_orderly sides empty a m o h = other_counts (put_sides sides empty a m) _ empty (put_side_orderly sides empty a m o h)
