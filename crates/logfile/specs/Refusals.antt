-- The refusals of reading row r of a log, as sentences for each line (01, "The tables" and "Refused, lowest number first"). Line 0
-- stands for the whole file, the row asked for and the buffer; line 1 is the header, and row r is on line r + 1.
use Rattle.std.specs.Prelude.{ℕ, zero, suc, ◌+◌, ◌≤◌, ◌<◌, ◌≡◌, ◌⊎◌, length}
use mathlib.Core.List.{List, [], ◌∷◌, map, Memᴰ}
use Rattle.obligations.specs.Limits.{positions}
use Rattle.text.specs.Bytes.{occurrences}
use Rattle.text.specs.Lines.{HasLine, line_at}
use Rattle.text.specs.Fields.{comma, space, split, join}
use Rattle.text.specs.Decimal.{print_number}
use Rattle.text.specs.Members.{highest}
use Rattle.net.specs.Refusals.{outside_limits, line_form, number_form}
use Rattle.net.specs.Sentences.{Sentence, whole}
use Rattle.logfile.specs.Limits.{log_bytes, log_rows, most_sessions}
use Rattle.logfile.specs.LogFile.{log_header}

-- ---- lines and rows

-- line n of a text, counted from 1, is l
pub record LineIs (text : List ℕ) (n : ℕ) (l : List ℕ) : Type 0 where
  pub low : 1 ≤ n
  pub high : HasLine text n
  pub there : line_at text n ≡ l

-- a trace as printed: activities with one space between them, and no byte if there are none
abbrev pub trace_text : List ℕ → List ℕ
trace_text ks = join space (map print_number ks)

-- a row as printed: its sessions, a comma and its trace
abbrev pub row_text : ℕ → List ℕ → List ℕ
row_text k ks = join comma (print_number k ∷ trace_text ks ∷ [])

-- a field has sessions as printed, from 1 to 1,000,000
abbrev pub SessionsWritten : List ℕ → Type 0
SessionsWritten field = (k : ℕ) × (field ≡ print_number k) × (1 ≤ k) × (k ≤ most_sessions)

-- a field has a trace as printed, of numbers up to 31
abbrev pub TraceWritten : List ℕ → Type 0
TraceWritten field = (ks : List ℕ) × (field ≡ trace_text ks) × ((k : ℕ) → Memᴰ k ks → k ≤ highest)

-- ---- the sentences

-- 3: the file exceeds its bytes, the row asked for is 0, or the buffer is shorter than row reading needs, a word for each of
-- the most positions
abbrev pub LogOutsideLimits : List ℕ → ℕ → ℕ → Type 0
LogOutsideLimits text r room = (log_bytes < length text) ⊎ ((r ≡ 0) ⊎ (room < positions))

-- 13: the header is missing or differs in any byte
abbrev pub HeaderDiffers : List ℕ → Type 0
HeaderDiffers text = LineIs text 1 log_header → ⊥

-- 13: a line doesn't have exactly one comma
abbrev pub CommasDiffer : List ℕ → Type 0
CommasDiffer l = occurrences comma l ≡ 1 → ⊥

-- 14: in one of a line's two fields a number is written otherwise, or is outside its column's limits
abbrev pub NumbersDiffer : List ℕ → Type 0
NumbersDiffer l = (sessions trace : List ℕ) × (split comma l ≡ sessions ∷ trace ∷ []) × ((SessionsWritten sessions → ⊥) ⊎ (TraceWritten trace → ⊥))

-- 3: a line's trace exceeds the limit of positions, or line n holds a 1,001st row
abbrev pub RowExceeds : ℕ → List ℕ → Type 0
RowExceeds n l = ((k : ℕ) × (ks : List ℕ) × (l ≡ row_text k ks) × (positions < length ks)) ⊎ (log_rows + 1 < n)

-- ---- by line

-- faults from the header to row r count: there is a line n, it is not past row r's, and this holds of it
abbrev pub UpToRow : List ℕ → ℕ → ℕ → (List ℕ → Type 0) → Type 0
UpToRow text r n Bad = (l : List ℕ) × LineIs text n l × (n ≤ r + 1) × Bad l

abbrev pub line_refusals : List ℕ → ℕ → ℕ → List Sentence
line_refusals text r n =
    whole line_form (UpToRow text r n CommasDiffer)
    ∷ whole number_form (UpToRow text r n NumbersDiffer)
    ∷ whole outside_limits (UpToRow text r n (RowExceeds n))
    ∷ []

abbrev pub row_refusals : List ℕ → ℕ → ℕ → ℕ → List Sentence
row_refusals text r room zero = whole outside_limits (LogOutsideLimits text r room) ∷ []
row_refusals text r room (suc zero) = whole line_form (HeaderDiffers text) ∷ []
row_refusals text r room (suc (suc i)) = line_refusals text r (suc (suc i))
