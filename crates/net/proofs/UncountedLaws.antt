-- A net with counts 0 in place of its own: it is orderly if the net is, its sides are the net's own, and containment answers the
-- same of it. A put into a net with counts 0 leaves them 0. Assumes nothing.
use Prim.Native.Nat.{ℕ, ◌*◌, ◌<◌}
use mathlib.Core.Path.{◌≡◌, refl, sym, ap, ◌∙◌}
use mathlib.Core.Bool.{true}
use Rattle.std.specs.Prelude.{Result}
use mathlib.Core.List.{◌∷◌, ◌++◌}
use mathlib.Core.Logic.{inl, inr, ⊎_elim}
use lib.ListN.{length, take, drop, get_or}
use Rattle.obligations.specs.Limits.{activities}
use Rattle.obligations.proofs.BoolLaws.{true_or_false}
use Rattle.net.specs.Limits.{sets, places}
use Rattle.net.specs.Lists.{place_in, insert_at, zeros, blank}
use Rattle.net.specs.Sides.{sides_of, counts_of, empty_at, with_counts, uncounted, SameButCounts, sets_in, counts_in}
use Rattle.net.specs.Inner.{SidesFit, OrderlySides, SideDone, CountedDone}
use Rattle.net.specs.Orderly.{orderly, Orderly}
use Rattle.net.specs.Put.{side_says, put_says, grows, grown_sides, with_sides, put_sides, put_gives}
use Rattle.net.specs.Contained.{sides_within, contained, contained_says}
use Rattle.net.specs.declared.Net.{Net}
use Rattle.net.specs.declared.sides.Side.{Side}
use Rattle.net.specs.declared.sides.Sides.{Sides}
use Rattle.net.specs.declared.putting.Placed.{Placed}
use Rattle.net.specs.declared.refusal.Refusal.{Refusal}
use Rattle.net.proofs.SideLaws.{same_sides, other_counts, fit_whatever_counts}
use Rattle.net.specs.declared.sides.Side.TheVariants.{Input, Output}
use Rattle.net.proofs.ListLaws.{zeros-append, zeros_part, zeros-behind, zeros_more, zeros_blank, blank-zeros}
use Rattle.net.proofs.OrderlyLaws.{orderly_ends, orderly_sides, orderly_fit, parts_orderly, facts_orderly}
use Rattle.net.proofs.GrownLaws.{length_grown_counts}
use Rattle.net.proofs.PutSideLaws.{has_room_lem}
use Rattle.net.proofs.PutLaws.{put_gives_sides, put_accepted, put_refused}
use Rattle.net.proofs.FreshLaws.{blank_counts}

pub uncounted-orderly : (net : Net) → orderly net ≡ true → orderly (uncounted net) ≡ true
uncounted-orderly net o =
    parts_orderly (uncounted net) (orderly_ends net o) (elim [ Input ↦ other_counts net.inputs _ _ (orderly_sides net o Input) | Output ↦ other_counts net.outputs _ _ (orderly_sides net o Output) ]) (elim [ Input ↦ blank_counts _ refl | Output ↦ blank_counts _ refl ])

-- a net that is orderly but for its counts has sides that fit
pub lent_fit : (net : Net) → orderly (uncounted net) ≡ true → (side : Side) → SidesFit (sides_of net side)
lent_fit net o Input = fit_whatever_counts net.inputs _ (orderly_fit (uncounted net) o Input)
lent_fit net o Output = fit_whatever_counts net.outputs _ (orderly_fit (uncounted net) o Output)

-- what says the same of an orderly net with counts 0 says the same of two that differ in their counts alone
pub passes_over : {A : Type 0} (f : Net → A) → ((net : Net) → orderly net ≡ true → f (uncounted net) ≡ f net) → (x y : Net) → Orderly x → Orderly y → SameButCounts x y → f x ≡ f y
passes_over f h x y o q e = sym (h x (facts_orderly x o)) ∙ ap f e ∙ h y (facts_orderly y q)

-- ---- puts

-- where the counts of one kind of side are 0, a put leaves them 0: an insertion of 0
module _ (sides : Sides) (empty a m : ℕ) (o : OrderlySides sides empty) (h : a < activities) (z : sides.counts ≡ blank places) where
  put_blank : (put_sides sides empty a m).counts ≡ blank places
  unfolding put_sides insert_at
  put_blank = ⊎_elim (λ g. rw g (still g)) (λ g. rw g z) (true_or_false (grows (side_says sides empty a m)))
    where
      still : grows (side_says sides empty a m) ≡ true → (grown_sides sides a m).counts ≡ blank places
      still g =
          let p = place_in m (sets_in sides a) in
          let own = insert_at p 0 (counts_in sides a) in
          let b : zeros sides.counts ≡ true = rw z (blank-zeros places) in
          let c : zeros (counts_in sides a) ≡ true = zeros_part (get_or sides.lengths a 0) (sets * a) sides.counts b in
          let l = length_grown_counts sides a m h (has_room_lem sides empty a m o h g) (blank_counts sides z) in
          zeros_blank (grown_sides sides a m).counts
          (zeros-append (take (sets * a) sides.counts) (own ++ drop (length own) (drop (sets * a) sides.counts)) (zeros_part (sets * a) 0 sides.counts b)
          (zeros-append own (drop (length own) (drop (sets * a) sides.counts)) (zeros-append (take p (counts_in sides a)) (0 ∷ drop p (counts_in sides a)) (zeros_part p 0 (counts_in sides a) c) (zeros_more (drop p (counts_in sides a)) (zeros-behind p (counts_in sides a) c)))
          (zeros-behind (length own) (drop (sets * a) sides.counts) (zeros-behind (sets * a) sides.counts b))))
          ∙ rw l

  -- so a put that leaves them in place does what one that moves them does
  pub blank_done : (r : Result Placed Refusal) (put : Sides) → SideDone sides empty a m r put → CountedDone sides empty a m r put
  blank_done r put d = record { said = d.said; sides_are = same_sides put _ d.masks_are d.lengths_are (d.counts_stay ∙ z ∙ sym put_blank) }

-- ---- a net whose counts are 0

pub no_counts : (net : Net) → uncounted net ≡ net → (side : Side) → counts_of net side ≡ blank places
no_counts net e Input = sym (ap (λ (n : Net). n.inputs.counts) e)
no_counts net e Output = sym (ap (λ (n : Net). n.outputs.counts) e)

blank_sides : (sides : Sides) → sides.counts ≡ blank places → with_counts sides (blank places) ≡ sides
blank_sides sides z = same_sides (with_counts sides (blank places)) sides refl refl (sym z)

with_blank : (net : Net) (side : Side) (sides : Sides) → uncounted net ≡ net → sides.counts ≡ blank places → uncounted (with_sides net side sides) ≡ with_sides net side sides
with_blank net Input sides e z = λ j. record { start = net.start; end = net.end; inputs = blank_sides sides z j; outputs = (e j).outputs }
with_blank net Output sides e z = λ j. record { start = net.start; end = net.end; inputs = (e j).inputs; outputs = blank_sides sides z j }

-- a put leaves them 0
pub put_uncounted : (net : Net) (side : Side) (a m : ℕ) → orderly net ≡ true → uncounted net ≡ net → uncounted (put_gives net side a m) ≡ put_gives net side a m
put_uncounted net side a m o e = elim (true_or_false (put_says net side a m).ok) [
  | inl k ↦
      let h = (put_accepted net side a m k).1 in
      rw (put_gives_sides net side a m o h)
      (with_blank net side (put_sides (sides_of net side) (empty_at net side) a m) e (put_blank (sides_of net side) (empty_at net side) a m (orderly_sides net o side) h (no_counts net e side)))
  | inr k ↦ rw (put_refused net side a m k) e
]

-- ---- containment

pub first-uncounted : (other net : Net) → orderly net ≡ true → contained_says (uncounted net) other ≡ contained_says net other
unfolding contained_says contained sides_within
first-uncounted other net o = rw (o, uncounted-orderly net o)

pub second-uncounted : (net other : Net) → orderly other ≡ true → contained_says net (uncounted other) ≡ contained_says net other
unfolding contained_says contained sides_within
second-uncounted net other o = rw (o, uncounted-orderly other o)
