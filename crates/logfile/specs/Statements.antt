-- What is proved of the definitions. The proofs are in proofs/Theorems.antt.
use Rattle.std.specs.Prelude.{ℕ, suc, ◌+◌, ◌≤◌, ◌<◌, ◌≡◌, ◌↔◌, length}
use mathlib.Core.List.{List, Memᴰ}
use Rattle.obligations.specs.Limits.{activities, positions}
use Rattle.net.specs.Sentences.{NoneHolds, AsListedByLine}
use Rattle.logfile.specs.Limits.{log_rows, most_sessions}
use Rattle.logfile.specs.LogFile.{row, end, read_row, row_refused, reading_says}
use Rattle.logfile.specs.Refusals.{LineIs, row_text, row_refusals}
use Rattle.logfile.specs.Cursor.{read_next, Reached}
use Rattle.logfile.specs.declared.Cursor.{Cursor}

-- reading a row is refused exactly as its sentences are listed, by line, and else not refused
abbrev pub RowListed : Type 0
RowListed = (text : List ℕ) (r room : ℕ) → AsListedByLine row_refused (row_refusals text r room) (reading_says (read_row text r room))

-- no sentence holds
abbrev pub RowNotRefused : List ℕ → ℕ → ℕ → Type 0
RowNotRefused text r room = (line : ℕ) → NoneHolds (row_refusals text r room line)

-- row r is read as k sessions and the trace ks exactly if no sentence holds and line r + 1 is their print; "end" is said exactly
-- if no sentence holds and there is no such line
abbrev pub RowSaid : Type 0
RowSaid =
    (text : List ℕ) (r room : ℕ)
    → ((k : ℕ) (ks : List ℕ) → (read_row text r room ≡ row k ks) ↔ (RowNotRefused text r room × LineIs text (r + 1) (row_text k ks)))
    × ((read_row text r room ≡ end) ↔ (RowNotRefused text r room × ((l : List ℕ) → LineIs text (r + 1) l → ⊥)))

-- whatever is read as row r is a trace of activities within the limit of positions, of 1 to 1,000,000 sessions, and r is at most 1,000
pub record Given (r s : ℕ) (t : List ℕ) : Type 0 where
  pub few_rows : r ≤ log_rows
  pub some_sessions : 1 ≤ s
  pub few_sessions : s ≤ most_sessions
  pub few_entries : length t ≤ positions
  pub activities_only : (k : ℕ) → Memᴰ k t → k < activities

abbrev pub RowIsTrace : Type 0
RowIsTrace = (text : List ℕ) (r room s : ℕ) (t : List ℕ) → read_row text r room ≡ row s t → Given r s t

-- after k rows that were read one after the other, the cursor reads row k + 1: so reading on until something else than a row
-- is said reads rows 1, 2 and so on
abbrev pub CursorReadsNext : Type 0
CursorReadsNext = (text : List ℕ) (room k : ℕ) (c : Cursor) → Reached text room k c → read_next text c room ≡ read_row text (suc k) room

-- what is said of the first row that isn't given is said of every row after it, so that nothing is missed by stopping there
abbrev pub LaterSame : Type 0
LaterSame =
    (text : List ℕ) (r q room : ℕ) → 1 ≤ r → r ≤ q → ((s : ℕ) (t : List ℕ) → read_row text r room ≡ row s t → ⊥)
    → read_row text q room ≡ read_row text r room
