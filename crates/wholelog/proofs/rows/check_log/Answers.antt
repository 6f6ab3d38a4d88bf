-- `check_log` meets its contract: what is said of the row after the last that a log may have is said of the log, and it is never a row.
-- Assumes nothing.
use Rattle.std.proofs.Common.{◌≡◌, sym, ap, ◌∙◌}
use Rattle.logfile.specs.Limits.{log_rows}
use Rattle.logfile.specs.LogFile.{row_means}
use Rattle.wholelog.proofs.LeftLaws.{log_ok, log_err}
use Rattle.wholelog.proofs.rows.check_log.Goals as goal

pub returns-in-Ok : goal.returns-in-Ok
returns-in-Ok c =
    let last : c.from.result ≡ log_rows = c.from.ensures in
    log_ok c.args.log.now c.in-Ok.field-0 (sym (ap row_means c.in-Ok.is) ∙ rw last at c.read_row.ensures.says)

pub returns-in-Err : goal.returns-in-Err
returns-in-Err c =
    let last : c.from.result ≡ log_rows = c.from.ensures in
    log_err c.args.log.now c.in-Err.refused (sym (ap row_means c.in-Err.is) ∙ rw last at c.read_row.ensures.says)
