-- `undo_take` meets its contract: one is added at the places of the inputs. Assumes nothing.
use Rattle.obligations.specs.State.{untaken}
use Rattle.obligations.proofs.state.Due.undo_take.Goals as goal

pub returns : goal.returns
unfolding untaken
returns c = cc
