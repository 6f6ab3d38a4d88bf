-- `at_end` meets its contract: by the test of the state. Assumes nothing.
use Rattle.std.proofs.Common.{sym}
use Rattle.search.proofs.ResultLaws.{end-found, end-failed}
use Rattle.search.proofs.backtrack.at_end.Goals as goal

pub returns-then-is_zero : goal.returns-then-is_zero
returns-then-is_zero c = end-found _ _ (sym c.if-is_zero.ensures)

pub returns-else-is_zero : goal.returns-else-is_zero
returns-else-is_zero c = end-failed _ _ (sym c.if-is_zero.ensures)
