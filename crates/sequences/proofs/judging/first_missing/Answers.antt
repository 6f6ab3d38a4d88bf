-- `first_missing` meets its contract. The outer loop's invariant: both sets of each position passed are on their sides; an inner
-- one's: whether the set is on the side is whether it is among the sets left. Assumes nothing.
use Rattle.std.proofs.Common.{refl, sym, ◌∙◌, ⊎_elim}
use Rattle.obligations.specs.Sequence.{bindings}
use Rattle.net.specs.declared.sides.Side.TheVariants.{Input, Output}
use Rattle.net.proofs.ListLaws.{listed_here, listed_next, listed-end}
use Rattle.net.proofs.OrderlyLaws.{orderly_at_most}
use Rattle.sequences.proofs.NumberLaws.{numbered_first, numbered, numbered_next, range_left}
use Rattle.sequences.proofs.MissingLaws.{passed_none, all_passed, passed_inside, passed_activity, passed_next, input_missing, output_missing}
use Rattle.sequences.proofs.judging.first_missing.Goals as goal

pub positions-init : goal.positions-init
positions-init c = ((tt, tt), tt, refl, numbered_first _ _ _ (cc) (passed_none c.args.net.now (bindings c.args.words.now) _ (cc)))

pub sets-x-items-requires-clause-at_most : goal.sets-x-items-requires-clause-at_most
sets-x-items-requires-clause-at_most c =
    orderly_at_most c.args.net.now c.requires.net_value Input _ (passed_activity _ _ _ _ c.positions.invariant.3.holds _ _ c.in-Some.ensures.steps.1 c.requires.within_limits.activities_only)

pub loop-x-preserved : goal.loop-x-preserved
loop-x-preserved c = c.loop-x.invariant ∙ listed_next _ _ _ c.loop-x-test.true c.if-x-binding.false

pub sets-y-items-requires-clause-at_most : goal.sets-y-items-requires-clause-at_most
sets-y-items-requires-clause-at_most c =
    orderly_at_most c.args.net.now c.requires.net_value Output _ (passed_activity _ _ _ _ c.positions.invariant.3.holds _ _ c.in-Some.ensures.steps.1 c.requires.within_limits.activities_only)

pub loop-y-preserved : goal.loop-y-preserved
loop-y-preserved c = c.loop-y.invariant ∙ listed_next _ _ _ c.loop-y-test.true c.if-y-binding.false

pub positions-preserved : goal.positions-preserved
positions-preserved c =
    let n = c.positions.invariant.3 in
    let s = c.in-Some.ensures.steps in
    let x = c.loop-x.invariant ∙ listed_here _ _ _ c.loop-x-test.true c.if-x-binding.true in
    let y = c.loop-y.invariant ∙ listed_here _ _ _ c.loop-y-test.true c.if-y-binding.true in (
      (tt, tt),
      tt,
      c.positions.invariant.2,
      numbered_next _ _ _ n _ s.0.0 _ _ s.0.1 (passed_inside _ _ _ _ n.holds _ _ s.1)
          (passed_next _ _ _ _ n.holds _ _ s.1 (rw c.sets-x-items.ensures at x) (rw c.sets-y-items.ensures at y)),
    )

pub returns-in-None : goal.returns-in-None
returns-in-None c =
    let n = c.positions.invariant.3 in
    ⊎_elim (λ w. absurd (range_left _ _ _ n c.requires.within_limits.few w.1.0)) (λ w. c.positions.invariant.2 ∙ sym (all_passed _ _ _ _ n.holds w.1.0)) c.in-None.ensures.steps

pub returns-after-loop-x : goal.returns-after-loop-x
returns-after-loop-x c =
    let n = c.positions.invariant.3 in
    let s = c.in-Some.ensures.steps in
    let x = c.loop-x.invariant ∙ listed-end _ _ _ c.loop-x-test.false in
    rw (numbered _ _ _ n _ s.0.0) (sym (input_missing _ _ _ _ n.holds _ _ s.1 (rw c.sets-x-items.ensures at x)))

pub returns-after-loop-y : goal.returns-after-loop-y
returns-after-loop-y c =
    let n = c.positions.invariant.3 in
    let s = c.in-Some.ensures.steps in
    let y = c.loop-y.invariant ∙ listed-end _ _ _ c.loop-y-test.false in
    rw (numbered _ _ _ n _ s.0.0) (sym (output_missing _ _ _ _ n.holds _ _ s.1 (rw c.sets-y-items.ensures at y)))
