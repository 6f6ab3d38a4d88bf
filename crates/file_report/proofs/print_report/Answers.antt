-- `print_report` meets its contract: the net that is read is orderly.
use Rattle.std.proofs.Common.{ap, ◌∙◌}
use Rattle.net.specs.Orderly.{orderly}
use Rattle.report.proofs.ReportLaws.{checked_orderly}
use Rattle.file_report.proofs.print_report.Goals as goal

pub print_log-requires : goal.print_log-requires
print_log-requires g c = ap orderly c.read_checked-read.ensures.gives ∙ checked_orderly _
