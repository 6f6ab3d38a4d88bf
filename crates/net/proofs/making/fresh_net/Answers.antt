-- `fresh_net` meets its contract: the sides are made as the definition says. Assumes nothing.
use Rattle.net.specs.Fresh.{fresh_net}
use Rattle.net.proofs.making.fresh_net.Goals as goal

pub returns : goal.returns
unfolding fresh_net
returns c = rw (c.just_empty.ensures, c.just_empty-2.ensures)
