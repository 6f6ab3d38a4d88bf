-- `take` meets its contract: the places of the inputs are due. Assumes nothing.
use Rattle.obligations.specs.State.{possible, taken}
use Rattle.obligations.proofs.state.Due.take.Goals as goal

pub lower-requires : goal.lower-requires
unfolding possible
lower-requires c = cc

pub returns : goal.returns
unfolding taken
returns c = cc
