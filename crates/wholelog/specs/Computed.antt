-- What is said of a whole log, its rows, and the share, as they are computed, with the refusals in their order. They mean what Rows,
-- Share and Refusals say: Statements.
use Rattle.std.specs.Prelude.{ℕ, zero, suc, ◌+◌, ◌*◌, ◌/◌, ◌%◌, Bool, true, false, List, [], ◌∷◌}
use Rattle.obligations.specs.Limits.{positions}
use Rattle.net.specs.Refusals.{Says, no_rows}
use Rattle.net.specs.Chains.{unless_by}
use Rattle.net.specs.declared.Net.{Net}
use Rattle.walks.specs.Check.{check_says}
use Rattle.logfile.specs.Limits.{log_rows}
use Rattle.logfile.specs.LogFile.{RowReading, row, end, fault, read_row, reading_says}
use Rattle.search.specs.Replay.{ReplaySays, checked_says}
use Rattle.wholelog.specs.Rows.{LoggedRow, logged}
use Rattle.wholelog.specs.Share.{sessions_of, fitting_of, spent_of, LogSays, says_figures, log_refused, ShareSays, net_refused, says_of_log}
use Rattle.wholelog.specs.declared.sharing.Figures.{Figures}

-- ---- a whole log

-- what is said of the row after the last that a log may have, as faults before it count
unfoldable pub log_says : List ℕ → Says
log_says log = (reading_says (read_row log (log_rows + 1) positions)).says

-- what was read, if it is a row, before those after it
abbrev pub before_others : RowReading → List LoggedRow → List LoggedRow
before_others (row s t) ws = logged s t ∷ ws
before_others end ws = []
before_others (fault n p) ws = []

-- at most n rows, from row r on
unfoldable pub found_rows : List ℕ → ℕ → ℕ → List LoggedRow
found_rows log zero r = []
found_rows log (suc n) r = before_others (read_row log r positions) (found_rows log n (suc r))

unfoldable pub rows_of : List ℕ → List LoggedRow
rows_of log = found_rows log log_rows 1

abbrev pub has_any : List LoggedRow → Bool
has_any [] = false
has_any (w ∷ ws) = true

-- ---- the share

-- what the quotient and the remainder are, InAThousand says
unfoldable pub share_out : (fitting spent all : ℕ) → Figures
share_out fitting spent all =
    record { per_thousand = 1000 * fitting / all; remainder = 1000 * fitting % all; fitting = fitting; spent = spent; all = all }

unfoldable pub figures_of : (List ℕ → ReplaySays) → List LoggedRow → Figures
figures_of answer ws = share_out (fitting_of answer ws) (spent_of answer ws) (sessions_of ws)

-- in a net that has been checked: a fault of the log, else 20 if it has no rows
unfoldable pub checked_share : Net → List ℕ → ℕ → LogSays
checked_share net log budget =
    let l = log_says log in
    let ws = rows_of log in
    unless_by log_refused l.ok l.refusal l.place
    (unless_by log_refused (has_any ws) no_rows 0
    (says_figures (figures_of (λ t. checked_says net t budget) ws)))

-- for every call: the net is refused first
unfoldable pub share_says : Net → List ℕ → ℕ → ShareSays
share_says net log budget =
    let c = check_says net in
    unless_by net_refused c.ok c.refusal c.place (says_of_log (checked_share net log budget))
