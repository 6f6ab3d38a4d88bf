-- Nets within nets: orderly nets that contain each other are the same record but for the counts, and a set of a net fits into
-- every net that it contains. Assumes nothing.
use Prim.Native.Nat.{ℕ, ◌<◌}
use native.Mathlib.Omega.{arith}
use mathlib.Core.Path.{◌≡◌, sym, ◌∙◌}
use mathlib.Core.Bool.{true, false}
use mathlib.Core.Logic.{inl, inr, ⊎_elim}
use lib.Dec.{eqb}
use lib.ListN.{get_or}
use borrow.Author.Tests.{eqb-true, ne_eqb}
use Rattle.obligations.specs.Limits.{activities}
use Rattle.obligations.proofs.BoolLaws.{true_or_false, or_cases}
use Rattle.net.specs.Limits.{sets}
use Rattle.net.specs.Lists.{listed, insert}
use Rattle.net.specs.Sides.{sides_of, lengths_of, empty_at, SameButCounts, sets_on, OnSide}
use Rattle.net.specs.Orderly.{orderly}
use Rattle.net.specs.Put.{misplaced, side_says, put_says, put_gives}
use Rattle.net.specs.Contained.{Contained}
use Rattle.net.specs.declared.Net.{Net}
use Rattle.net.specs.declared.sides.Side.{Side}
use Rattle.net.specs.declared.sides.Side.TheVariants.{Input, Output}
use Rattle.net.proofs.ListLaws.{listed_one}
use Rattle.net.proofs.InsertLaws.{length-insert, listed-insert, ascends-insert}
use Rattle.net.proofs.SideLaws.{side_just_empty, plain_side_ok}
use Rattle.net.proofs.OrderlyLaws.{orderly_sides, orderly_at_most, sets_length}
use Rattle.net.proofs.PutLaws.{put_says_side, put_start, put_end, put_on_side}
use Rattle.net.proofs.AscendingLaws.{ascending-within}
use Rattle.net.proofs.SameLaws.{same_but_counts, same_lists}

-- nets with the same start and end have the empty set on the same sides
pub same_empty : (x y : Net) (side : Side) → x.start ≡ y.start → x.end ≡ y.end → empty_at x side ≡ empty_at y side
same_empty x y Input s e = s
same_empty x y Output s e = e

-- orderly nets that contain each other are equal, but for the counts
pub contained-same : (x y : Net) → orderly x ≡ true → orderly y ≡ true → Contained x y → Contained y x → SameButCounts x y
contained-same x y o q f g =
    same_but_counts x y o q
    (λ side a h. same_lists x y o q side a h (λ m. f.among side a m h) (λ m. g.among side a m h))
    f.same_start f.same_end

-- ---- a set of a net fits into every net that it contains

module _ (net whole : Net) (o : orderly net ≡ true) (q : orderly whole ≡ true) (f : Contained net whole) (side : Side) (a m : ℕ) (h : a < activities) (k : 0 < m) (on : OnSide whole side a m) where
  -- its side is not one that holds just the empty set
  plain : a ≡ empty_at net side → ⊥
  plain e =
      let z = side_just_empty (sides_of whole side) (empty_at whole side) (orderly_sides whole q side) a h (e ∙ same_empty net whole side f.same_start f.same_end) in
      let n = listed_one m 0 (rw z at on) in omega arith

  not_full : listed m (sets_on net side a) ≡ false → get_or (lengths_of net side) a 0 ≡ sets → ⊥
  not_full new full =
      let s = (plain_side_ok (sides_of net side) (empty_at net side) (orderly_sides net o side) a h plain).0 in
      let t = (plain_side_ok (sides_of whole side) (empty_at whole side) (orderly_sides whole q side) a h (λ e. plain (e ∙ sym (same_empty net whole side f.same_start f.same_end)))).0 in
      let n = ascending-within 0 0 (insert m (sets_on net side a)) (sets_on whole side a) (ascends-insert 0 m (sets_on net side a) k s new) t among in
      omega (arith, length-insert m (sets_on net side a), sets_length net o side a h, sets_length whole q side a h, orderly_at_most whole q side a h)
    where
      among : (x : ℕ) → listed x (insert m (sets_on net side a)) ≡ true → listed x (sets_on whole side a) ≡ true
      among x e =
          ⊎_elim (λ i. rw (sym (eqb-true m x i)) on) (λ i. f.among side a x h i)
          (or_cases (eqb m x) (listed x (sets_on net side a)) (sym (listed-insert x m (sets_on net side a)) ∙ e))

  pub put_accepts_within : (put_says net side a m).ok ≡ true
  unfolding side_says misplaced
  put_accepts_within =
      let p = ne_eqb m 0 (λ e. omega arith) in
      let r = ne_eqb a (empty_at net side) plain in
      elim (true_or_false (listed m (sets_on net side a))) [
        | inl e ↦ rw (put_says_side net side a m o h, p, r, e)
        | inr e ↦ rw (put_says_side net side a m o h, p, r, e, ne_eqb (get_or (lengths_of net side) a 0) sets (not_full e))
      ]

  pub put_keeps_within : Contained (put_gives net side a m) whole
  put_keeps_within = record {
    same_start = put_start net side a m ∙ f.same_start;
    same_end = put_end net side a m ∙ f.same_end;
    among = λ t b x l i. ⊎_elim (λ j. f.among t b x l j) (λ e. rw (e.0, e.1, e.2) on) ((put_on_side net side a m put_accepts_within t b x).0 i);
  }
