-- What is proved of the reports: they have what the calls of replay and share say. The proofs are in proofs/Theorems.antt.
use Rattle.std.specs.Prelude.{ℕ, ◌*◌, ◌≤◌, ◌≡◌, List}
use Rattle.obligations.specs.Limits.{positions}
use Rattle.net.specs.Sentences.{NoneHolds}
use Rattle.net.specs.declared.Net.{Net}
use Rattle.walks.specs.Check.{check_refusals}
use Rattle.search.specs.Replay.{replay_says}
use Rattle.wholelog.specs.Refusals.{LogReads}
use Rattle.wholelog.specs.Share.{LogSays, says_of_log}
use Rattle.wholelog.specs.Computed.{rows_of, share_says}
use Rattle.report.specs.RowLines.{table_text}
use Rattle.report.specs.Report.{row_budget, replays_text, said_text, share_text}

-- in a net of which no refusal holds, a log that isn't refused is printed with what the call of replay says of each row's trace, with
-- any buffer that has room for every trace
abbrev pub RowsAreReplays : Type 0
RowsAreReplays =
    (net : Net) (log : List ℕ) (room : ℕ) → NoneHolds (check_refusals net) → LogReads log → 3 * positions ≤ room
    → replays_text net log ≡ table_text (λ t. replay_says net t row_budget room) (rows_of log)

-- what the call of share says of a log is printed as its share
abbrev pub ShareIsCall : Type 0
ShareIsCall = (net : Net) (log : List ℕ) (x : LogSays) → share_says net log row_budget ≡ says_of_log x → share_text net log ≡ said_text x
