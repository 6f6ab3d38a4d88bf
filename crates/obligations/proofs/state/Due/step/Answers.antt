-- `step` meets its contract: where the binding is possible, what is taken leaves a state with room for what is added, and the
-- total goes with it. Assumes nothing.
use Rattle.std.proofs.Common.{Some, sym, ap, subst, arith, ◌∙◌}
use Rattle.obligations.specs.State.{State, most_due}
use Rattle.obligations.proofs.StateLaws.{after-added, taken_state}
use Rattle.obligations.proofs.StepLaws.{carried_less, carried_fits, carried, says_possible, says_not, gives_possible, gives_not}
use Rattle.obligations.proofs.state.Due.step.Goals as goal

pub returns-then-not-is_possible-clause-reports : goal.returns-then-not-is_possible-clause-reports
returns-then-not-is_possible-clause-reports c = sym (says_not _ _ _ _ (rw c.is_possible.ensures at c.if-not-is_possible.true))

pub returns-then-not-is_possible-clause-leaves : goal.returns-then-not-is_possible-clause-leaves
returns-then-not-is_possible-clause-leaves c = sym (gives_not _ _ _ _ (rw c.is_possible.ensures at c.if-not-is_possible.true))

pub add-requires-clause-has_room : goal.add-requires-clause-has_room
add-requires-clause-has_room c =
    let b = c.args.binding in
    subst (State most_due) (sym c.take.ensures) (taken_state most_due c.args.self.now b.activity b.input c.requires.has_room)

pub overflow_sub-result : goal.overflow_sub-result
overflow_sub-result c =
    omega (arith, carried_less c.args.self.now c.args.binding.activity c.args.binding.input c.requires.has_room c.requires.is_activity (rw c.is_possible.ensures at c.if-not-is_possible.false))

pub overflow_add-result : goal.overflow_add-result
overflow_add-result c =
    omega (arith, carried_fits c.args.self.now c.args.binding.activity c.args.binding.input c.requires.has_room c.requires.is_activity (rw c.is_possible.ensures at c.if-not-is_possible.false) c.args.binding.output)

pub returns-clause-reports : goal.returns-clause-reports
returns-clause-reports c =
    let b = c.args.binding in
    let t = rw c.is_possible.ensures at c.if-not-is_possible.false in
    let e = carried c.args.self.now b.activity b.input c.requires.has_room c.requires.is_activity t b.output in
    ap Some (omega (arith, e)) ∙ sym (says_possible _ _ _ _ t)

pub returns-clause-leaves : goal.returns-clause-leaves
returns-clause-leaves c =
    let b = c.args.binding in
    let t = rw c.is_possible.ensures at c.if-not-is_possible.false in
    let e = after-added c.args.self.now b.activity b.input b.output in
    let g = gives_possible c.args.self.now b.activity b.input b.output t in
    cc
