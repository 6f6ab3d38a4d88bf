-- `size` meets its contract: the count of ones is the number of members. Assumes nothing.
use Rattle.std.proofs.Common.{sym}
use Rattle.obligations.proofs.MemberLaws.{size-ones}
use Rattle.obligations.proofs.sets.size.Goals as goal

pub returns : goal.returns
returns c = sym (size-ones c.args.set c.ranges.set.fits)
