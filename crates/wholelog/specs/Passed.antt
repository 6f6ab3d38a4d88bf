-- How far a log has been gone through: definitions of which only a struct of the code speaks. That n rows can be read one after the
-- other is logfile's `Reached` too, but a field that holds a fact has to hold one with a single proof.
use Rattle.std.specs.Prelude.{ℕ, zero, suc, ◌<◌, ◌≡◌, Bool, true, false, List}
use Rattle.obligations.specs.Limits.{positions}
use Rattle.logfile.specs.LogFile.{RowReading, row, end, fault}
use Rattle.logfile.specs.Cursor.{start, read_next, cursor_after}
use Rattle.logfile.specs.declared.Cursor.{Cursor}

-- the cursor after k rows, if so many can be read
abbrev pub cursor_past : List ℕ → ℕ → Cursor
cursor_past log zero = start
cursor_past log (suc k) = let c = cursor_past log k in cursor_after log c (read_next log c positions)

abbrev pub is_row : RowReading → Bool
is_row (row s t) = true
is_row end = false
is_row (fault n p) = false

-- the first n rows can be read
abbrev pub AllGiven : List ℕ → ℕ → Type 0
AllGiven log n = (k : ℕ) → k < n → is_row (read_next log (cursor_past log k) positions) ≡ true
