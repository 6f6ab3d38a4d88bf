-- `none_in` meets its contract: the lowest member is found by trailing zeros. Assumes nothing.
use Rattle.std.proofs.Common.{◌<◌, arith}
use borrow.Author.Tests.{ne_eqb}
use Rattle.walks.proofs.NoneInLaws.{lowest-is}
use Rattle.walks.proofs.none_in.Goals as goal

pub returns-then-set-ne0 : goal.returns-then-set-ne0
returns-then-set-ne0 c =
    let some : 0 < c.args.set = omega (arith, c.if-set-ne0.true) in
    rw (c.at.ensures, ne_eqb c.args.set 0 c.if-set-ne0.true, lowest-is c.args.set some c.ranges.set.fits)
