-- `minus` meets its contract, which is the machine's operation. Assumes nothing.
use Rattle.std.proofs.Common.{refl}
use Rattle.obligations.specs.Sets.{minus}
use Rattle.obligations.proofs.sets.minus.Goals as goal

pub returns : goal.returns
unfolding minus
returns c = refl
