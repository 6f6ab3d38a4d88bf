-- `check` meets its contract: refused by 2, or the check of an orderly net that is lent. Assumes nothing.
use Rattle.std.proofs.Common.{sym}
use Rattle.net.proofs.UncountedLaws.{uncounted-orderly}
use Rattle.walks.specs.Check.{check_says}
use Rattle.walks.proofs.check.Goals as goal

pub returns-then-not-is_orderly : goal.returns-then-not-is_orderly
unfolding check_says
returns-then-not-is_orderly c = rw (c.at.ensures, ← c.if-not-is_orderly.ensures)

pub check_lent-requires : goal.check_lent-requires
check_lent-requires c = uncounted-orderly c.args.net (sym c.if-not-is_orderly.ensures)

pub returns : goal.returns
unfolding check_says
returns c = rw (← c.if-not-is_orderly.ensures) c.check_lent.ensures
