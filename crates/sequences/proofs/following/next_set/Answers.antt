-- `next_set` meets its contract, by whether there is a next position. Assumes nothing.
use Rattle.std.proofs.Common.{rules}
use Rattle.sequences.specs.Inner.{next_set}
use Rattle.sequences.proofs.following.next_set.Goals as goal

pub returns : goal.returns
unfolding next_set
returns c = search rules
