-- What is left of a log that is gone through: definitions of which only contracts of the code speak.
use Rattle.std.specs.Prelude.{ℕ, suc, ◌+◌, ◌-◌, ◌≡◌, List, [], ◌∷◌, length, take, Option, MatchOption}
use Rattle.logfile.specs.Limits.{log_rows}
use Rattle.logfile.specs.declared.Row.{Row}
use Rattle.search.specs.Replay.{ReplaySays, outcome_means}
use Rattle.wholelog.specs.Rows.{LoggedRow, logged}
use Rattle.wholelog.specs.Computed.{found_rows}
use Rattle.wholelog.specs.declared.rows.Rows.{Rows}
use Rattle.wholelog.specs.declared.rows.Replayed.{Replayed}

-- the rows that are still to be given
unfoldable pub rows_left : Rows → List LoggedRow
rows_left rows = found_rows rows.text.now (log_rows - rows.given) (suc rows.given)

-- how many rows were given
abbrev pub rows_given : Rows → ℕ
rows_given rows = rows.given

-- the trace of the row given last, at the buffer's front
abbrev pub last_trace : Rows → List ℕ
last_trace rows = take rows.length rows.trace

-- no row was left: nothing changes
pub record NoneLeft (old new : Rows) : Type 0 where
  pub none : rows_left old ≡ []
  pub still_none : rows_left new ≡ []
  pub same_count : rows_given new ≡ rows_given old
  pub same_trace : last_trace new ≡ last_trace old

-- a row was given: it is the first of those that were left, with its trace, and the others are left
pub record GivenFirst (old new : Rows) (row : Row) : Type 0 where
  pub first : rows_left old ≡ logged row.sessions (last_trace new) ∷ rows_left new
  pub as_long : length (last_trace new) ≡ row.length
  pub counted : rows_given new ≡ rows_given old + 1

abbrev pub NextGiven : Rows → Option Row → Rows → Type 0
NextGiven old answer new = MatchOption answer (NoneLeft old new) (λ row. GivenFirst old new row)

-- the same of a row that was replayed too, where traces' replays answer so
pub record ReplayedFirst (answer : List ℕ → ReplaySays) (old new : Rows) (x : Replayed) : Type 0 where
  pub first : rows_left old ≡ logged x.sessions (last_trace new) ∷ rows_left new
  pub says : outcome_means x.outcome ≡ answer (last_trace new)
  pub numbered : x.row ≡ rows_given old + 1
  pub counted : rows_given new ≡ rows_given old + 1

abbrev pub NextReplayed : (List ℕ → ReplaySays) → Rows → Option Replayed → Rows → Type 0
NextReplayed answer old result new = MatchOption result (NoneLeft old new) (λ x. ReplayedFirst answer old new x)
