-- Going on in a log row after row: a cursor is where a line starts and that line's number. Line 1 is the header.
use Rattle.std.specs.Prelude.{ℕ, suc, ◌+◌, min, max, ◌≡◌, cond, List, ltb, length, drop}
use Rattle.text.specs.Lines.{lines}
use Rattle.text.specs.Inner.{line_end, next_line}
use Rattle.net.specs.Refusals.{outside_limits}
use Rattle.net.specs.Chains.{unless_by}
use Rattle.logfile.specs.LogFile.{RowReading, row, end, fault, row_after, after_header, sizes_ok, RowRead}
use Rattle.logfile.specs.declared.Cursor.{Cursor}
use Rattle.logfile.specs.declared.NextRow.{NextRow}

abbrev pub start : Cursor
start = record { at = 0; line = 1 }

-- the row with k rows before it, in lines of which the first is line n
unfoldable pub from_line : ℕ → ℕ → List (List ℕ) → RowReading
from_line n k ls = cond (ltb 1 n) (row_after n k ls) (after_header k ls)

-- where a cursor stands: one past the text's end stands at its end
abbrev pub standing : List ℕ → Cursor → ℕ
standing text c = min c.at (length text)

-- the row at a cursor
unfoldable pub read_next : List ℕ → Cursor → ℕ → RowReading
read_next text c room = unless_by fault (sizes_ok text room) outside_limits 0 (from_line c.line 0 (lines (drop (standing text c) text)))

-- where the row at a cursor starts: past the header, if that is the cursor's line
unfoldable pub row_start : List ℕ → Cursor → ℕ
row_start text c = cond (ltb 1 c.line) (standing text c) (next_line text (line_end text (standing text c)))

-- the cursor after what was read: on the line after a row, else where it was
abbrev pub cursor_after : List ℕ → Cursor → RowReading → Cursor
cursor_after text c (row s t) = record { at = next_line text (line_end text (row_start text c)); line = max 2 c.line + 1 }
cursor_after text c end = c
cursor_after text c (fault n p) = c

pub record NextRead (text : List ℕ) (c : Cursor) (out₀ : List ℕ) (r : NextRow) (out : List ℕ) : Type 0 where
  pub reads : RowRead (read_next text c (length out₀)) out₀ r.answer out
  pub goes_on : r.cursor ≡ cursor_after text c (read_next text c (length out₀))

-- c is the cursor after k rows were read one after the other from the start
pub data Reached (text : List ℕ) (room : ℕ) : ℕ → Cursor → Type 0 where
  at_start : Reached text room 0 start
  one_more : {k : ℕ} {c : Cursor} (s : ℕ) (t : List ℕ) → Reached text room k c → read_next text c room ≡ row s t → Reached text room (suc k) (cursor_after text c (row s t))
