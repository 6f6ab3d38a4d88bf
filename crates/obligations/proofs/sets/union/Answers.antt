-- `union` meets its contract, which is the machine's operation. Assumes nothing.
use Rattle.std.proofs.Common.{refl}
use Rattle.obligations.specs.Sets.{union}
use Rattle.obligations.proofs.sets.union.Goals as goal

pub returns : goal.returns
unfolding union
returns c = refl
