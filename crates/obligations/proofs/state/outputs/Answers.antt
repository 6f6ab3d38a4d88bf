-- `outputs` meets its contract: it is the definition. Assumes nothing.
use Rattle.std.proofs.Common.{ap, ℕ}
use Rattle.obligations.specs.Places.{places_of}
use Rattle.obligations.specs.State.{outputs}
use Rattle.obligations.proofs.state.outputs.Goals as goal

pub returns : goal.returns
unfolding outputs
returns c = ap (λ (m : ℕ). places_of c.args.a 32 m) c.members.ensures
