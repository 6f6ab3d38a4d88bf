-- `refused_reading` meets its contract: 0 and 1 are ends that fresh accepts. Assumes nothing.
use Rattle.std.proofs.Common.{refl, ◌∙◌}
use Rattle.net.proofs.FreshLaws.{fresh_given, zero_one}
use Rattle.netfile.proofs.read.refused_reading.Goals as goal

pub returns : goal.returns
returns c = record { says = refl; gives = c.fresh.ensures.gives ∙ fresh_given 0 1 zero_one }
