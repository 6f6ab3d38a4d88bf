-- `Sums::figures` meets its contract, which is what it computes. Assumes nothing.
use Rattle.std.proofs.Common.{refl}
use Rattle.wholelog.specs.Computed.{share_out}
use Rattle.wholelog.proofs.sharing.Sums.figures.Goals as goal

pub returns : goal.returns
unfolding share_out
returns c = refl
