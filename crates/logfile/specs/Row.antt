-- What the parts of the readers answer: definitions of which only contracts of private functions speak.
use Rattle.std.specs.Prelude.{ℕ, ◌≤◌, ◌≡◌, true, cond, List, ◌++◌, ltb, length, drop, Option, Some, None}
use Rattle.std.proofs.Math.Seq.{slice}
use Rattle.text.specs.Bytes.{same_bytes}
use Rattle.text.specs.Inner.{line_end, next_line}
use Rattle.text.specs.Decimal.{value, all_numbers, values}
use Rattle.text.specs.Members.{highest}
use Rattle.net.specs.Refusals.{refusal_number}
use Rattle.net.specs.declared.refusal.Refused.{Refused}
use Rattle.obligations.specs.Limits.{positions}
use Rattle.logfile.specs.LogFile.{RowReading, row, fault, is_sessions, entries, read_line, log_header}
use Rattle.logfile.specs.declared.Cursor.{Cursor}
use Rattle.logfile.specs.declared.Row.{Row}

abbrev pub cursor_of : ℕ → ℕ → Cursor
cursor_of i n = record { at = i; line = n }

-- where the first row's line starts, and its number, for a reader at line n, which starts at i: past the header, if that is the
-- line and it is what it has to be
unfoldable pub begun : List ℕ → ℕ → ℕ → Option Cursor
begun text i n =
    cond (ltb 1 n) (Some (cursor_of i n))
    (cond (same_bytes (slice i (line_end text i) text) log_header) (Some (cursor_of (next_line text (line_end text i)) 2)) None)

-- what is read where a line is refused
abbrev pub fault_of : Refused → RowReading
fault_of r = fault (refusal_number r.refusal) r.place

-- the sessions that a field says
unfoldable pub parse_sessions : List ℕ → Option ℕ
parse_sessions s = cond (is_sessions s) (Some (value s)) None

-- how many entries a trace field has, if all are activities
unfoldable pub count_entries : List ℕ → Option ℕ
count_entries t = cond (all_numbers highest (entries t)) (Some (length (entries t))) None

-- a trace field whose entries are activities and fit into a buffer, and the buffer with them at its front
pub record IsTrace (t : List ℕ) (room : ℕ) : Type 0 where
  pub numbers : all_numbers highest (entries t) ≡ true
  pub few : length (entries t) ≤ room

abbrev pub TraceFilled : List ℕ → List ℕ → List ℕ → Type 0
TraceFilled t out₀ out = out ≡ values (entries t) ++ drop (length (entries t)) out₀

-- line n is a row, with this trace field
pub record RowOnLine (n : ℕ) (l : List ℕ) (r : Row) (trace : List ℕ) : Type 0 where
  pub reads : read_line n l ≡ row r.sessions (values (entries trace))
  pub long : length (entries trace) ≡ r.length
  pub is_trace : IsTrace trace positions
