-- `sizes` meets its contract: the sum is that of the definition, and fits, as no set has more than 32 members. Assumes nothing.
use Rattle.std.proofs.Common.{rules, ◌<◌, ◌^◌, sum_by}
use Rattle.std.proofs.iter.runs.Made.{chains}
use Rattle.obligations.specs.Sets.{size}
use Rattle.walks.proofs.RowLaws.{sizes_fit}
use Rattle.walks.proofs.arcs.sizes.Goals as goal

pub sum-requires-clause-fits : goal.sum-requires-clause-fits
sum-requires-clause-fits c = let fit : sum_by size c.args.rows.now < 2 ^ 32 = sizes_fit c.args.rows.now c.told-rows in search (rules, chains)

pub returns : goal.returns
returns c = search (rules, chains)
