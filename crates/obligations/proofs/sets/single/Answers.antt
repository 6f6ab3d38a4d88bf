-- `single` meets its contract: a shift of one by less than the width is the power of two. Assumes nothing.
use Rattle.std.proofs.Common.{lt-ltb, le-ltb}
use Rattle.obligations.specs.Sets.{single}
use Rattle.obligations.proofs.BitLaws.{one_shl}
use Rattle.obligations.proofs.sets.single.Goals as goal

pub returns-then-k-lt32 : goal.returns-then-k-lt32
unfolding single
returns-then-k-lt32 c = rw (lt-ltb c.args.k 32 c.if-k-lt32.true) (one_shl c.args.k c.if-k-lt32.true)

pub returns-else-k-lt32 : goal.returns-else-k-lt32
unfolding single
returns-else-k-lt32 c = rw (le-ltb c.args.k 32 c.if-k-lt32.false)
