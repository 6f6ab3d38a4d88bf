use Rattle.std.proofs.Common.{◌+◌, length}
use Rattle.text.proofs.StoreLaws.{Storing}
use Rattle.search.specs.Replay.{checked_says}
use Rattle.wholelog.specs.Computed.{rows_of}
use Rattle.wholelog.specs.Left.{rows_left, rows_given}
use Rattle.report.specs.RowLines.{rows_text}
use Rattle.report.specs.Report.{row_budget}
use Rattle.report.proofs.write_rows.Given as goal

abbrev pub invariant-loop-row : goal.invariant-loop-row
invariant-loop-row l =
    Storing l.initial.out (rows_text (λ t. checked_says l.net t row_budget) 1 (rows_of l.text)) l.out (rows_text (λ t. checked_says l.net t row_budget) (rows_given l.rows + 1) (rows_left l.rows))

abbrev pub decreases-loop-row : goal.decreases-loop-row
decreases-loop-row l = length (rows_left l.rows)
