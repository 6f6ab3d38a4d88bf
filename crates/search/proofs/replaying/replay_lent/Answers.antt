-- `replay_lent` meets its contract: by the test of the trace's shape and the search from nothing due. Assumes nothing.
use Rattle.std.proofs.Common.{sym, ◌∙◌}
use Rattle.obligations.proofs.StateLaws.{nothing_state}
use Rattle.search.proofs.TraceLaws.{shaped-ones}
use Rattle.search.proofs.ReplayLaws.{unshaped_done, shaped_done}
use Rattle.search.proofs.replaying.replay_lent.Goals as goal

pub returns-then-not-is_shaped : goal.returns-then-not-is_shaped
returns-then-not-is_shaped c =
    let g = c.args in
    unshaped_done g.net.now g.trace.now _ _ (sym (shaped-ones g.net.now.start g.net.now.end g.trace.now) ∙ sym c.if-not-is_shaped.ensures)

pub inputs-requires-clause-state : goal.inputs-requires-clause-state
inputs-requires-clause-state c = rw c.new.ensures nothing_state

pub returns : goal.returns
returns c =
    let g = c.args in
    shaped_done g.net.now g.trace.now (sym (shaped-ones g.net.now.start g.net.now.end g.trace.now) ∙ sym c.if-not-is_shaped.ensures) (rw c.new.ensures at c.inputs.ensures)
