-- `put_line` meets its contract: a row that is read is of an activity. Assumes nothing.
use Rattle.std.proofs.Common.{sym}
use Rattle.netfile.proofs.LineReadLaws.{row_exactly}
use Rattle.netfile.proofs.read.put_line.Goals as goal

pub put_row-requires-clause-activity : goal.put_row-requires-clause-activity
put_row-requires-clause-activity c =
    let r = c.in_ok-row_line.field-0 in
    ((row_exactly c.args.line.now r.side r.activity r.set).0 (sym c.in_ok-row_line.ensures)).is_activity
