-- The test of containment agrees with the facts in the paper's words, both ways, and containment is reflexive and
-- transitive; a put gives a net that contains the old one. Assumes nothing.
use Prim.Native.Nat.{ℕ, ◌<◌}
use mathlib.Core.Path.{◌≡◌, refl, sym, ◌∙◌}
use mathlib.Core.Bool.{Bool, true, ◌&&◌}
use mathlib.Core.Logic.{inl, ⊎_elim}
use lib.Dec.{eqb}
use borrow.Author.Tests.{eqb-true, eq-eqb}
use Rattle.obligations.specs.Limits.{activities}
use Rattle.obligations.proofs.BoolLaws.{and_left, and_right, true_or_false}
use Rattle.net.specs.Lists.{all_listed}
use Rattle.net.specs.Sides.{sides_of, sets_on, OnSide}
use Rattle.net.specs.Put.{put_says, put_gives}
use Rattle.net.specs.Contained.{sides_within, contained, Contained}
use Rattle.net.specs.declared.Net.{Net}
use Rattle.net.specs.declared.sides.Side.{Side}
use Rattle.net.specs.declared.sides.Side.TheVariants.{Input, Output}
use Rattle.net.proofs.BelowLaws.{below_at, below_true}
use Rattle.net.proofs.ListLaws.{all_listed-at, at-all_listed}
use Rattle.net.proofs.PutLaws.{put_refused, put_start, put_end, put_on_side}

module _ (net other : Net) where
  within : Side → Bool
  within side = sides_within (sides_of net side) (sides_of other side)

  within_facts : (side : Side) → within side ≡ true → (a m : ℕ) → a < activities → OnSide net side a m → OnSide other side a m
  unfolding within sides_within
  within_facts side h a m k i = all_listed-at m (sets_on net side a) (sets_on other side a) (below_at activities (λ b. all_listed (sets_on net side b) (sets_on other side b)) a k h) i

  facts_within : (side : Side) → ((a m : ℕ) → a < activities → OnSide net side a m → OnSide other side a m) → within side ≡ true
  unfolding within sides_within
  facts_within side f = below_true activities (λ b. all_listed (sets_on net side b) (sets_on other side b)) (λ a k. at-all_listed (sets_on net side a) (sets_on other side a) (λ m i. f a m k i))

  pub contained_facts : contained net other ≡ true → Contained net other
  unfolding contained within
  contained_facts h =
      let s = eqb net.start other.start in
      let e = eqb net.end other.end in
      let both = within Input && within Output in
      let t = and_right s (e && both) h in
      let u = and_right e both t in
      record {
        same_start = eqb-true net.start other.start (and_left s (e && both) h);
        same_end = eqb-true net.end other.end (and_left e both t);
        among = elim [
          | Input ↦ within_facts Input (and_left (within Input) (within Output) u)
          | Output ↦ within_facts Output (and_right (within Input) (within Output) u)
        ];
      }

  pub facts_contained : Contained net other → contained net other ≡ true
  unfolding contained within
  facts_contained f =
      rw (
        eq-eqb net.start other.start f.same_start,
        eq-eqb net.end other.end f.same_end,
        facts_within Input (f.among Input),
        facts_within Output (f.among Output),
      )

pub contained-refl : (net : Net) → Contained net net
contained-refl net = record { same_start = refl; same_end = refl; among = λ side a m h i. i }

pub contained_trans : (x y z : Net) → Contained x y → Contained y z → Contained x z
contained_trans x y z f g = record {
  same_start = f.same_start ∙ g.same_start;
  same_end = f.same_end ∙ g.same_end;
  among = λ side a m h i. g.among side a m h (f.among side a m h i);
}

-- what put gives contains what it was given
pub put-contained : (net : Net) (side : Side) (a m : ℕ) → Contained net (put_gives net side a m)
put-contained net side a m = record { same_start = sym (put_start net side a m); same_end = sym (put_end net side a m); among = λ t b x h i. kept t b x i }
  where
    kept : (t : Side) (b x : ℕ) → OnSide net t b x → OnSide (put_gives net side a m) t b x
    kept t b x i = ⊎_elim (λ ok. (put_on_side net side a m ok t b x).1 (inl i)) (λ d. rw (put_refused net side a m d) i) (true_or_false (put_says net side a m).ok)
