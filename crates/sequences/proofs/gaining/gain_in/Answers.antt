-- `gain_in` meets its contract: the loop's invariant is `Gaining`, and each way out is one of its laws. Assumes nothing.
use Rattle.std.proofs.Common.{arith, sym}
use Rattle.std.proofs.lemmas.Result.{err_from_is_err_and}
use Rattle.obligations.specs.Sequence.{bindings}
use Rattle.sequences.proofs.GainLaws.{one_set, one_top, gaining_start, all_gained, gain_topped, gain_done, gaining_activity, no_input_room, no_output_room, gaining_next}
use Rattle.sequences.proofs.gaining.gain_in.Goals as goal

pub loop-binding-init : goal.loop-binding-init
loop-binding-init c = (tt, tt, gaining_start c.args.net.now (bindings c.args.words.now) _ (cc) c.requires.net_value c.requires.within_limits.activities_only)

pub gain_set-requires-clause-orderly : goal.gain_set-requires-clause-orderly
gain_set-requires-clause-orderly c = c.loop-binding.invariant.2.inputs_orderly

pub gain_set-requires-clause-activity : goal.gain_set-requires-clause-activity
gain_set-requires-clause-activity c = gaining_activity _ _ _ _ _ _ c.loop-binding.invariant.2 _ _ c.in-Some.ensures.steps

pub returns-in_err-input-clause-says : goal.returns-in_err-input-clause-says
returns-in_err-input-clause-says c =
    let p = err_from_is_err_and c.from_residual.result c.from_residual.ensures.1 in
    rw (p.1, p.2) (no_input_room _ _ _ _ _ _ c.loop-binding.invariant.2 _ _ c.in-Some.ensures.steps c.in_err-input.field-0.0 _ c.in_err-input.ensures)

pub gain_set-requires-in-loop-binding-clause-orderly : goal.gain_set-requires-in-loop-binding-clause-orderly
gain_set-requires-in-loop-binding-clause-orderly c = c.loop-binding.invariant.2.outputs_orderly

pub returns-in_err-output-clause-says : goal.returns-in_err-output-clause-says
returns-in_err-output-clause-says c =
    let r = c.from_residual-in_err-output in
    let p = err_from_is_err_and r.result r.ensures.1 in
    rw (p.1, p.2) (no_output_room _ _ _ _ _ _ c.loop-binding.invariant.2 _ _ c.in-Some.ensures.steps _ _ c.in_ok-input.ensures c.in_err-output.field-0.0 _ c.in_err-output.ensures)

pub overflow_add-new : goal.overflow_add-new
overflow_add-new c = omega (arith, one_set _ _ _ _ _ _ c.in_ok-input.ensures, one_set _ _ _ _ _ _ c.in_ok-output.ensures)

pub overflow_add-new-in-loop-binding : goal.overflow_add-new-in-loop-binding
overflow_add-new-in-loop-binding c =
    omega (arith, one_set _ _ _ _ _ _ c.in_ok-input.ensures, one_set _ _ _ _ _ _ c.in_ok-output.ensures, c.loop-binding.invariant.2.bounded, c.requires.within_limits.few)

pub overflow_add-topped : goal.overflow_add-topped
overflow_add-topped c = omega (arith, one_top _ _ _ _ _ _ c.in_ok-input.ensures, one_top _ _ _ _ _ _ c.in_ok-output.ensures)

pub overflow_add-topped-in-loop-binding : goal.overflow_add-topped-in-loop-binding
overflow_add-topped-in-loop-binding c =
    omega (arith, one_top _ _ _ _ _ _ c.in_ok-input.ensures, one_top _ _ _ _ _ _ c.in_ok-output.ensures, c.loop-binding.invariant.2.few_tops, c.requires.within_limits.few)

pub loop-binding-preserved : goal.loop-binding-preserved
loop-binding-preserved c = (tt, tt, gaining_next _ _ _ _ _ _ c.loop-binding.invariant.2 _ _ c.in-Some.ensures.steps _ _ c.in_ok-input.ensures _ _ c.in_ok-output.ensures)

pub returns-then-topped-ne0-clause-says : goal.returns-then-topped-ne0-clause-says
returns-then-topped-ne0-clause-says c = rw c.at.ensures (gain_topped _ _ _ _ _ _ c.loop-binding.invariant.2 c.in-None.ensures.steps.0 c.if-topped-ne0.true)

pub returns-clause-says : goal.returns-clause-says
returns-clause-says c = gain_done _ _ _ _ _ _ c.loop-binding.invariant.2 c.in-None.ensures.steps.0 c.if-topped-ne0.false

pub returns-clause-gives : goal.returns-clause-gives
returns-clause-gives c = sym (all_gained _ _ _ _ _ _ c.loop-binding.invariant.2 c.in-None.ensures.steps.0)
