-- Laws of fresh: its net holds the empty set on the start's input side and the end's output side and nothing else, has
-- counts 0 and is orderly. Each is read off arrays of zeros in which one length is 1. Assumes nothing.
use Prim.Native.Nat.{ℕ, ◌+◌, ◌*◌, ◌<◌}
use native.Mathlib.Decide.{ℕ_discrete as dec_eq}
use native.Mathlib.Omega.{arith}
use mathlib.Core.Path.{◌≡◌, refl, ap}
use mathlib.Core.Bool.{true, cond}
use mathlib.Core.Logic.{◌↔◌, ⊎_elim}
use mathlib.Core.List.{[], ◌∷◌}
use lib.Dec.{eqb}
use lib.ListN.{length, take, drop, get_or, set, length-set}
use lib.Seq.{get_or-set_same, get_or-set_other}
use borrow.Author.Tests.{eq-eqb, ne_eqb}
use Rattle.obligations.specs.Limits.{activities}
use Rattle.obligations.specs.State.{total}
use Rattle.obligations.proofs.BoolLaws.{true_or_false, false-not-true}
use Rattle.net.specs.Limits.{sets, places}
use Rattle.net.specs.Lists.{blank, ascends_above, zeros}
use Rattle.net.specs.Sides.{block, uncounted, sets_in, empty_at, sets_on, counts_on, count_of, OnSide}
use Rattle.net.specs.Inner.{OrderlySides}
use Rattle.net.specs.Orderly.{block_ok, ends_ok, sides_ok, orderly}
use Rattle.net.specs.Refusals.{accepted}
use Rattle.net.specs.Fresh.{just_empty, fresh_net, fresh_says, fresh_gives}
use Rattle.net.specs.declared.sides.Side.{Side}
use Rattle.net.specs.declared.sides.Sides.{Sides}
use Rattle.net.specs.declared.sides.Side.TheVariants.{Input, Output}
use Rattle.net.proofs.BelowLaws.{below_true}
use Rattle.net.proofs.ListLaws.{zeros-at, zeros_part, blank-zeros, listed_one, one_listed, none_listed}
use Rattle.net.proofs.PlaceLaws.{count_none, total-zeros}
use Rattle.net.proofs.SideLaws.{OrderlyCounts, zero-past, past_counts, side_just_empty}
use Rattle.net.proofs.OrderlyLaws.{ends_facts, parts_orderly}

pub fresh_start : (start end : ℕ) → (fresh_net start end).start ≡ start
unfolding fresh_net
fresh_start start end = refl

pub fresh-end : (start end : ℕ) → (fresh_net start end).end ≡ end
unfolding fresh_net
fresh-end start end = refl

-- ---- the sides of one kind

blank-at : (n i : ℕ) → ◌≡◌ {A = ℕ} (get_or (blank n) i 0) 0
blank-at n i = zeros-at (blank n) (blank-zeros n) i

blank-zeros_part : (n k i : ℕ) → zeros (take n (drop k (blank i))) ≡ true
blank-zeros_part n k i = zeros_part n k (blank i) (blank-zeros i)

blank_part : (n k i : ℕ) → ◌≡◌ {A = ℕ} (get_or (take n (drop k (blank places))) i 0) 0
blank_part n k i = zeros-at (take n (drop k (blank places))) (blank-zeros_part n k places) i

fresh_ok : (empty a : ℕ) → empty < activities → block_ok (block (blank places) a) (get_or (set (blank activities) empty 1) a 0) (eqb a empty) ≡ true
unfolding block_ok ascends_above
fresh_ok empty a h = elim (dec_eq a empty) [
  | yes e ↦ rw (e, eq-eqb empty empty refl, get_or-set_same (blank activities) empty 1 0 h, blank-zeros_part sets (sets * empty) places)
  | no d ↦ rw (ne_eqb a empty d, get_or-set_other (blank activities) empty a 1 0 d, blank-at activities a, blank-zeros_part sets (sets * a) places)
]

fresh_kind : (empty : ℕ) → empty < activities → OrderlySides (just_empty empty) empty
unfolding sides_ok
fresh_kind empty h = record {
  masks_long = refl;
  lengths_long = length-set (blank activities) empty 1;
  all_ok = below_true activities (λ a. block_ok (block (blank places) a) (get_or (set (blank activities) empty 1) a 0) (eqb a empty)) (λ a k. fresh_ok empty a h);
}

-- counts 0 are 0 past every side's sets
pub blank_counts : (sides : Sides) → sides.counts ≡ blank places → OrderlyCounts sides
blank_counts sides z =
    past_counts sides (ap length z) (λ a h. rw z (zero-past (blank places) a (get_or sides.lengths a 0) refl h (λ i l k. blank-at places (sets * a + i))))

fresh-side : (empty a : ℕ) → empty < activities → sets_in (just_empty empty) a ≡ cond (eqb a empty) (0 ∷ []) []
fresh-side empty a h = elim (dec_eq a empty) [
  | yes e ↦ rw (eq-eqb a empty e) (side_just_empty (just_empty empty) empty (fresh_kind empty h) a (omega arith) e)
  | no d ↦ rw (ne_eqb a empty d, get_or-set_other (blank activities) empty a 1 0 d, blank-at activities a)
]

-- ---- the net

module _ (start end : ℕ) (h : ends_ok start end ≡ true) where
  pub fresh_sides : (side : Side) (a : ℕ) → sets_on (fresh_net start end) side a ≡ cond (eqb a (empty_at (fresh_net start end) side)) (0 ∷ []) []
  unfolding fresh_net
  fresh_sides Input a = fresh-side start a (ends_facts start end h).0
  fresh_sides Output a = fresh-side end a (ends_facts start end h).1

  -- a fresh net holds just the two empty sets
  pub fresh_on_side : (side : Side) (a m : ℕ) → OnSide (fresh_net start end) side a m ↔ ((a ≡ empty_at (fresh_net start end) side) × (m ≡ 0))
  fresh_on_side side a m = elim (dec_eq a (empty_at (fresh_net start end) side)) [
    | yes e ↦ rw (fresh_sides side a, eq-eqb a (empty_at (fresh_net start end) side) e) ((λ i. (e, listed_one m 0 i)), (λ q. rw q.1 (one_listed 0)))
    | no d ↦ rw (fresh_sides side a, ne_eqb a (empty_at (fresh_net start end) side) d) ((λ i. absurd (false-not-true (none_listed m) i)), (λ q. absurd (d q.0)))
  ]

  -- no set of a fresh net was used
  pub fresh_unused : (side : Side) (a m : ℕ) → count_of (fresh_net start end) side a m ≡ 0
  unfolding fresh_net
  fresh_unused Input a m = count_none m (sets_on (fresh_net start end) Input a) (counts_on (fresh_net start end) Input a) (blank_part (get_or (set (blank activities) start 1) a 0) (sets * a))
  fresh_unused Output a m = count_none m (sets_on (fresh_net start end) Output a) (counts_on (fresh_net start end) Output a) (blank_part (get_or (set (blank activities) end 1) a 0) (sets * a))

  pub fresh_sum : (side : Side) (a : ℕ) → total (counts_on (fresh_net start end) side a) ≡ 0
  unfolding fresh_net
  fresh_sum Input a = total-zeros (counts_on (fresh_net start end) Input a) (blank-zeros_part (get_or (set (blank activities) start 1) a 0) (sets * a) places)
  fresh_sum Output a = total-zeros (counts_on (fresh_net start end) Output a) (blank-zeros_part (get_or (set (blank activities) end 1) a 0) (sets * a) places)

  pub fresh_orderly : orderly (fresh_net start end) ≡ true
  unfolding fresh_net
  fresh_orderly =
      let f = ends_facts start end h in
      parts_orderly (fresh_net start end) h (elim [ Input ↦ fresh_kind start f.0 | Output ↦ fresh_kind end f.1 ]) (elim [ Input ↦ blank_counts _ refl | Output ↦ blank_counts _ refl ])

-- 0 and 1 are ends that fresh accepts
pub zero_one : ends_ok 0 1 ≡ true
unfolding ends_ok
zero_one = refl

-- whatever fresh is given, it returns an orderly net
pub fresh_gives-orderly : (start end : ℕ) → orderly (fresh_gives start end) ≡ true
unfolding fresh_gives
fresh_gives-orderly start end =
    ⊎_elim (λ e. rw e (fresh_orderly start end e)) (λ e. rw e (fresh_orderly 0 1 zero_one)) (true_or_false (ends_ok start end))

-- it has counts 0
pub fresh-uncounted : (start end : ℕ) → uncounted (fresh_net start end) ≡ fresh_net start end
unfolding fresh_net
fresh-uncounted start end = refl

pub fresh_gives-uncounted : (start end : ℕ) → uncounted (fresh_gives start end) ≡ fresh_gives start end
unfolding fresh_gives
fresh_gives-uncounted start end = ⊎_elim (λ e. rw e (fresh-uncounted start end)) (λ e. rw e (fresh-uncounted 0 1)) (true_or_false (ends_ok start end))

-- ---- what fresh answers, and the net that it returns

pub fresh_accepted : (start end : ℕ) → ends_ok start end ≡ true → fresh_says start end ≡ accepted 0
unfolding fresh_says
fresh_accepted start end h = rw h

pub fresh_given : (start end : ℕ) → ends_ok start end ≡ true → fresh_gives start end ≡ fresh_net start end
unfolding fresh_gives
fresh_given start end h = rw h
