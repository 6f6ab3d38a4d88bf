-- `run` meets its contract: the loop's invariant is `Running`, at each of the positions that are numbered, and each way out is one of
-- its laws. Assumes nothing.
use Rattle.std.proofs.Common.{refl, sym, ⊎_elim}
use Rattle.obligations.specs.Sequence.{bindings}
use Rattle.sequences.proofs.NumberLaws.{numbered_first, numbered, numbered_next, range_left}
use Rattle.sequences.proofs.RunLaws.{running_start, running_state, running_settled, running_left, running_inside, running_activity, running_impossible, running_next}
use Rattle.sequences.proofs.running.run.Goals as goal

pub loop-position-init : goal.loop-position-init
loop-position-init c = ((tt, tt), tt, numbered_first _ _ _ (cc) (running_start (bindings c.args.words.now) _ _ _ refl (cc) c.new-due.ensures))

pub step-requires-clause-is_activity : goal.step-requires-clause-is_activity
step-requires-clause-is_activity c = running_activity _ _ _ _ _ _ c.loop-position.invariant.2.holds _ _ c.in-Some.ensures.steps.1 c.requires.activities_only

pub step-requires-clause-has_room : goal.step-requires-clause-has_room
step-requires-clause-has_room c = running_state _ _ _ _ _ _ c.loop-position.invariant.2.holds c.requires.few

pub step-requires-clause-is_total : goal.step-requires-clause-is_total
step-requires-clause-is_total c = c.loop-position.invariant.2.holds.counted

pub returns-in_default : goal.returns-in_default
returns-in_default c =
    let n = c.loop-position.invariant.2 in
    let s = c.in-Some.ensures.steps in
    rw (c.at.ensures, numbered _ _ _ n _ s.0.0) (running_impossible _ _ _ _ _ _ n.holds _ _ s.1 (sym (c.in_default.ensures.reports)))

pub loop-position-preserved : goal.loop-position-preserved
loop-position-preserved c =
    let n = c.loop-position.invariant.2 in
    let s = c.in-Some.ensures.steps in (
      (tt, tt),
      tt,
      numbered_next _ _ _ n _ s.0.0 _ _ s.0.1 (running_inside _ _ _ _ _ _ n.holds _ _ s.1)
          (rw c.max-peak.ensures (running_next _ _ _ _ _ _ n.holds _ _ s.1 _ _ (sym c.in-Some-step.ensures.reports) c.in-Some-step.ensures.leaves)),
    )

pub returns-then-total-ne0 : goal.returns-then-total-ne0
returns-then-total-ne0 c =
    let n = c.loop-position.invariant.2 in
    ⊎_elim (λ w. absurd (range_left _ _ _ n c.requires.few w.1.0)) (λ w. rw c.at-then-total-ne0.ensures (running_left _ _ _ _ _ _ n.holds w.1.0 c.if-total-ne0.true)) c.in-None.ensures.steps

pub returns : goal.returns
returns c =
    let n = c.loop-position.invariant.2 in
    ⊎_elim (λ w. absurd (range_left _ _ _ n c.requires.few w.1.0)) (λ w. running_settled _ _ _ _ _ _ n.holds w.1.0 c.if-total-ne0.false) c.in-None.ensures.steps
