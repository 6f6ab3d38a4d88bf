-- Reading a row of a log file (01, "The tables" and "Refused, lowest number first"): by line, and on a line 13 before 14
-- before 3.
use Rattle.std.specs.Prelude.{ℕ, zero, suc, ◌+◌, ◌-◌, ◌≡◌, Bool, ◌&&◌, List, [], ◌∷◌, ◌++◌, leb, ltb, length, drop, Option, Some, None, Result, Ok, Err}
use Rattle.obligations.specs.Limits.{positions}
use Rattle.text.specs.Bytes.{same_bytes}
use Rattle.text.specs.Lines.{lines}
use Rattle.text.specs.Fields.{comma, space, split}
use Rattle.text.specs.Decimal.{value, is_number, all_numbers, values}
use Rattle.text.specs.Members.{highest}
use Rattle.net.specs.Refusals.{Says, accepted, refused, refusal_number, outside_limits, line_form, number_form}
use Rattle.net.specs.Chains.{unless_by}
use Rattle.logfile.specs.Limits.{log_bytes, log_rows, most_sessions}
use Rattle.net.specs.declared.refusal.Refused.{Refused}
use Rattle.logfile.specs.declared.Row.{Row}

-- what is read: a row's sessions and trace, "end", or a refusal's number and line
pub data RowReading : Type 0 where
  row : ℕ → List ℕ → RowReading
  end : RowReading
  fault : ℕ → ℕ → RowReading

-- ---- a row's line

-- sessions are a number from 1 to 1,000,000
unfoldable pub is_sessions : List ℕ → Bool
is_sessions s = is_number most_sessions s && ltb 0 (value s)

-- the entries of a trace field: none if it is empty, else those between single spaces
abbrev pub entries : List ℕ → List (List ℕ)
entries [] = []
entries (b ∷ s) = split space (b ∷ s)

-- line n with two fields: 14 if a number is not one of its column's, else 3 if the trace is too long or line n is past the
-- last row's
unfoldable pub read_fields : ℕ → List ℕ → List ℕ → RowReading
read_fields n sessions trace =
    unless_by fault (is_sessions sessions && all_numbers highest (entries trace)) number_form n
    (unless_by fault (leb (length (entries trace)) positions && leb n (log_rows + 1)) outside_limits n
    (row (value sessions) (values (entries trace))))

-- line n: 13 unless it has one comma, and so two fields
abbrev pub read_parts : ℕ → List (List ℕ) → RowReading
read_parts n (sessions ∷ trace ∷ []) = read_fields n sessions trace
read_parts n [] = fault line_form n
read_parts n (f ∷ []) = fault line_form n
read_parts n (f ∷ g ∷ h ∷ fs) = fault line_form n

unfoldable pub read_line : ℕ → List ℕ → RowReading
read_line n l = read_parts n (split comma l)

-- ---- the lines of a file

-- past a row to what is read after it; what is not a row stays
abbrev pub past : RowReading → RowReading → RowReading
past (row s t) r = r
past end r = end
past (fault f n) r = fault f n

-- the row with k rows before it, in lines of which the first is line n
unfoldable pub row_after : ℕ → ℕ → List (List ℕ) → RowReading
row_after n k [] = end
row_after n zero (l ∷ ls) = read_line n l
row_after n (suc k) (l ∷ ls) = past (read_line n l) (row_after (n + 1) k ls)

-- sessions,trace
abbrev pub log_header : List ℕ
log_header = 115 ∷ 101 ∷ 115 ∷ 115 ∷ 105 ∷ 111 ∷ 110 ∷ 115 ∷ comma ∷ 116 ∷ 114 ∷ 97 ∷ 99 ∷ 101 ∷ []

-- the row with k rows before it, after the header on line 1
abbrev pub after_header : ℕ → List (List ℕ) → RowReading
after_header k [] = fault line_form 1
after_header k (h ∷ ls) = unless_by fault (same_bytes h log_header) line_form 1 (row_after 2 k ls)

-- the text's length and the buffer's are as they have to be
unfoldable pub sizes_ok : List ℕ → ℕ → Bool
sizes_ok text room = leb (length text) log_bytes && leb positions room

-- row r of a log, counted from 1, for a buffer of so many words
unfoldable pub read_row : List ℕ → ℕ → ℕ → RowReading
read_row text r room = unless_by fault (ltb 0 r && sizes_ok text room) outside_limits 0 (after_header (r - 1) (lines text))

-- ---- what an answer says, and what the buffer holds then

-- a refusal, or that a row was given (value 1) with its sessions and its trace's length, or "end" (value 0)
pub record RowSays : Type 0 where
  pub says : Says
  pub sessions : ℕ
  pub entries : ℕ

abbrev pub row_refused : ℕ → ℕ → RowSays
row_refused n p = record { says = refused n p; sessions = 0; entries = 0 }

abbrev pub row_means : Result (Option Row) Refused → RowSays
row_means (Ok (Some r)) = record { says = accepted 1; sessions = r.sessions; entries = r.length }
row_means (Ok None) = record { says = accepted 0; sessions = 0; entries = 0 }
row_means (Err r) = row_refused (refusal_number r.refusal) r.place

abbrev pub reading_says : RowReading → RowSays
reading_says (row s t) = record { says = accepted 1; sessions = s; entries = length t }
reading_says end = record { says = accepted 0; sessions = 0; entries = 0 }
reading_says (fault n p) = row_refused n p

-- a row's trace at the buffer's front, and every other word as it was
abbrev pub reading_leaves : RowReading → List ℕ → List ℕ
reading_leaves (row s t) out = t ++ drop (length t) out
reading_leaves end out = out
reading_leaves (fault n p) out = out

pub record RowRead (reading : RowReading) (out₀ : List ℕ) (r : Result (Option Row) Refused) (out : List ℕ) : Type 0 where
  pub says : row_means r ≡ reading_says reading
  pub leaves : out ≡ reading_leaves reading out₀
