-- `undo_add` meets its contract: the places of the outputs are due. Assumes nothing.
use Rattle.obligations.specs.State.{covers, unadded}
use Rattle.obligations.proofs.state.Due.undo_add.Goals as goal

pub lower-requires : goal.lower-requires
unfolding covers
lower-requires c = cc

pub returns : goal.returns
unfolding unadded
returns c = cc
