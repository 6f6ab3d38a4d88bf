-- `Rows::new` meets its contract: all rows are left. Assumes nothing.
use Rattle.std.proofs.Common.{refl}
use Rattle.wholelog.specs.Computed.{rows_of}
use Rattle.wholelog.specs.Left.{rows_left}
use Rattle.wholelog.proofs.rows.Rows.new.Goals as goal

pub returns-clause-left : goal.returns-clause-left
unfolding rows_left rows_of
returns-clause-left c = refl
