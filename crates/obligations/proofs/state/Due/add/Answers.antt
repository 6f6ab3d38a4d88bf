-- `add` meets its contract: one is added at the places of the outputs. Assumes nothing.
use Rattle.obligations.specs.State.{outputs, added}
use Rattle.obligations.proofs.state.Due.add.Goals as goal

pub returns : goal.returns
unfolding added outputs
returns c = cc
