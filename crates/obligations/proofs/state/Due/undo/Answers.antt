-- `undo` meets its contract: what was added goes first, then what was taken comes back. Assumes nothing.
use Rattle.std.proofs.Common.{sym, subst}
use Rattle.obligations.specs.State.{State, most_due, before}
use Rattle.obligations.proofs.StateLaws.{unadded_state}
use Rattle.obligations.proofs.state.Due.undo.Goals as goal

pub undo_take-requires-clause-has_room : goal.undo_take-requires-clause-has_room
undo_take-requires-clause-has_room c =
    let b = c.args.binding in
    subst (State most_due) (sym c.undo_add.ensures) (unadded_state most_due c.args.self.now b.activity b.output c.requires.has_room)

pub returns : goal.returns
unfolding before
returns c = cc
