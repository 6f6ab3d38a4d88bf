-- A whole log (01, "The tables"; 02, (vi)): its rows in their order.
use Rattle.std.specs.Prelude.{ℕ, suc, ◌≡◌, List, [], ◌∷◌}
use Rattle.obligations.specs.Limits.{positions}
use Rattle.logfile.specs.LogFile.{row, end, read_row}

-- a row: its sessions and its trace
pub record LoggedRow : Type 0 where
  pub sessions : ℕ
  pub trace : List ℕ

abbrev pub logged : ℕ → List ℕ → LoggedRow
logged s t = record { sessions = s; trace = t }

-- what is read from row r on, one row after the other until "end" is said
pub data RowsFrom (log : List ℕ) : ℕ → List LoggedRow → Type 0 where
  no_more : {r : ℕ} → read_row log r positions ≡ end → RowsFrom log r []
  row_first : {r : ℕ} (s : ℕ) (t : List ℕ) {ws : List LoggedRow} → read_row log r positions ≡ row s t → RowsFrom log (suc r) ws → RowsFrom log r (logged s t ∷ ws)

-- the rows of a log
abbrev pub AreRows : List ℕ → List LoggedRow → Type 0
AreRows log ws = RowsFrom log 1 ws
