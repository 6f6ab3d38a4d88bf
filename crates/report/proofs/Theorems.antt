-- The statements of specs/Statements.antt: the calls of replay and share say of a log what is said in a net that has been checked.
-- Assumes nothing.
use Prim.Native.Nat.{ℕ}
use mathlib.Core.Path.{sym, ap}
use mathlib.Core.List.{List, [], ◌∷◌, ◌++◌}
use Rattle.text.specs.Lines.{unlines}
use Rattle.search.specs.Replay.{checked_says, replay_says}
use Rattle.wholelog.specs.Computed.{rows_of}
use Rattle.wholelog.proofs.Theorems.{rows_called, said_of-log}
use Rattle.wholelog.proofs.RefusalLaws.{log_ok-reads}
use Rattle.report.specs.RowLines.{report_header, table_text}
use Rattle.report.specs.Report.{row_budget, replays_text, said_text, share_text}
use Rattle.report.specs.Statements.{RowsAreReplays, ShareIsCall}
use Rattle.report.proofs.TextLaws.{rows-same}

pub rows_are-replays : RowsAreReplays
unfolding replays_text table_text
rows_are-replays net log room none reads h =
    rw ((log_ok-reads log).1 reads)
    (ap (λ (lines : List ℕ). unlines (report_header ∷ []) ++ lines)
    (rows-same (λ t. checked_says net t row_budget) (λ t. replay_says net t row_budget room) 1 (rows_of log) (λ k d lt. sym (rows_called net log row_budget room none h k d lt))))

pub share_is-call : ShareIsCall
unfolding share_text
share_is-call net log x e = ap said_text ((said_of-log net log row_budget x).0 e).1
