-- `union_of` meets its contract: the fold is that of the definition. Assumes nothing.
use Rattle.std.proofs.Common.{rules}
use Rattle.std.proofs.iter.runs.Made.{chains}
use Rattle.walks.proofs.arcs.union_of.Goals as goal

pub returns : goal.returns
returns c = search (rules, chains)
