-- `print_log` meets its contract: the report is no longer than its buffer.
use Rattle.std.proofs.Common.{sym, arith, length-take-le}
use Rattle.report.proofs.ReportLaws.{log_wrote_short}
use Rattle.file_report.proofs.print_log.Goals as goal

pub slice_bounds-out-end : goal.slice_bounds-out-end
slice_bounds-out-end g c = omega (arith, log_wrote_short _ _ _ _ _ _ c.report_log-k.ensures)

pub slice_bounds-print-end : goal.slice_bounds-print-end
slice_bounds-print-end g c = sym (length-take-le _ _ (omega (arith, log_wrote_short _ _ _ _ _ _ c.report_log-k.ensures)))
