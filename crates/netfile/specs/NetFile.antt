-- Net files (01, "The tables" and "Refused, lowest number first"). A file is read by line, the first line with a refusal
-- decides, and on a line 13 comes before 14 and both before the others. The rows are put into the fresh net of the start
-- and the end one after the other.
use Rattle.std.specs.Prelude.{ℕ, zero, suc, ◌+◌, ◌<◌, ◌≡◌, ◌&&◌, not, cond, List, [], ◌∷◌, ◌++◌, leb, eqb, length, drop, Option, Some, None, Result, Ok, Err, ⊤}
use Rattle.std.specs.Option.{ok_or}
use Rattle.obligations.specs.Limits.{activities}
use Rattle.text.specs.Bytes.{same_bytes}
use Rattle.text.specs.Lines.{lines, unlines}
use Rattle.text.specs.Fields.{comma, split, join}
use Rattle.text.specs.Decimal.{is_empty, parse_number, print_number}
use Rattle.text.specs.Members.{highest, parse_members, print_members}
use Rattle.net.specs.Refusals.{Says, accepted, refused, refusal_number, means, bad_ends, disorderly, outside_limits, line_form, text_too_long}
use Rattle.net.specs.Sentences.{Sentence, whole}
use Rattle.net.specs.Chains.{unless_by, unless}
use Rattle.net.specs.Common.{not_orderly}
use Rattle.net.specs.Sides.{sets_on}
use Rattle.net.specs.Orderly.{orderly}
use Rattle.net.specs.Fresh.{fresh_net}
use Rattle.net.specs.Put.{put_says, put_gives}
use Rattle.net.specs.declared.Net.{Net}
use Rattle.net.specs.declared.sides.Side.{Side}
use Rattle.net.specs.declared.sides.Side.TheVariants.{Input, Output}
use Rattle.netfile.specs.Limits.{net_bytes}
use Rattle.net.specs.declared.refusal.Refusal.{Refusal}
use Rattle.net.specs.declared.refusal.Refusal.TheVariants.{LineForm, NumberForm}
use Rattle.net.specs.declared.refusal.Refused.{Refused}
use Rattle.net.specs.declared.Returned.{Returned}
use Rattle.netfile.specs.declared.line.SetRow.{SetRow}

-- ---- the fixed bytes

-- side,activity,members
abbrev pub net_header : List ℕ
net_header = 115 ∷ 105 ∷ 100 ∷ 101 ∷ comma ∷ 97 ∷ 99 ∷ 116 ∷ 105 ∷ 118 ∷ 105 ∷ 116 ∷ 121 ∷ comma ∷ 109 ∷ 101 ∷ 109 ∷ 98 ∷ 101 ∷ 114 ∷ 115 ∷ []

-- start
abbrev pub start_word : List ℕ
start_word = 115 ∷ 116 ∷ 97 ∷ 114 ∷ 116 ∷ []

-- end
abbrev pub end_word : List ℕ
end_word = 101 ∷ 110 ∷ 100 ∷ []

-- in, out
abbrev pub side_word : Side → List ℕ
side_word Input = 105 ∷ 110 ∷ []
side_word Output = 111 ∷ 117 ∷ 116 ∷ []

-- ---- reading a line

-- the start row or the end row, which has three fields: 13 unless its word is the one asked for and no byte follows its
-- second comma, then 14 unless its number is an activity
abbrev pub end_number : Option ℕ → Result ℕ Refusal
end_number number = ok_or number NumberForm

abbrev pub end_fields : List ℕ → List (List ℕ) → Result ℕ Refusal
end_fields word [] = Err LineForm
end_fields word (w ∷ []) = Err LineForm
end_fields word (w ∷ a ∷ []) = Err LineForm
end_fields word (w ∷ a ∷ m ∷ []) = cond (same_bytes w word && is_empty m) (end_number (parse_number highest a)) (Err LineForm)
end_fields word (w ∷ a ∷ m ∷ x ∷ fs) = Err LineForm

unfoldable pub read_end : List ℕ → List ℕ → Result ℕ Refusal
read_end word line = end_fields word (split comma line)

-- a row, which has three fields: 13 unless its word is a side's and a byte follows its second comma, then 14 unless its
-- number is an activity and its members are well written
abbrev pub row_of_set : Side → ℕ → ℕ → SetRow
row_of_set side a m = record { side = side; activity = a; set = m }

abbrev pub row_numbers : Side → Option ℕ → Option ℕ → Result SetRow Refusal
row_numbers side (Some a) (Some m) = Ok (row_of_set side a m)
row_numbers side (Some a) None = Err NumberForm
row_numbers side None m = Err NumberForm

unfoldable pub row_rest : Side → List ℕ → List ℕ → Result SetRow Refusal
row_rest side a m = cond (is_empty m) (Err LineForm) (row_numbers side (parse_number highest a) (parse_members m))

-- the side that a word says
unfoldable pub read_side : List ℕ → Result Side Refusal
read_side w = cond (same_bytes w (side_word Input)) (Ok Input) (cond (same_bytes w (side_word Output)) (Ok Output) (Err LineForm))

abbrev pub row_on : Result Side Refusal → List ℕ → List ℕ → Result SetRow Refusal
row_on (Ok side) a m = row_rest side a m
row_on (Err r) a m = Err r

abbrev pub row_fields : List (List ℕ) → Result SetRow Refusal
row_fields [] = Err LineForm
row_fields (w ∷ []) = Err LineForm
row_fields (w ∷ a ∷ []) = Err LineForm
row_fields (w ∷ a ∷ m ∷ []) = row_on (read_side w) a m
row_fields (w ∷ a ∷ m ∷ x ∷ fs) = Err LineForm

unfoldable pub read_set_row : List ℕ → Result SetRow Refusal
read_set_row line = row_fields (split comma line)

-- what is said of a row's set for a net, and the net with it: 5 and 12 are those of put
abbrev pub row_says : Net → Result SetRow Refusal → Says
row_says net (Ok r) = put_says net r.side r.activity r.set
row_says net (Err r) = refused (refusal_number r) 0

abbrev pub row_gives : Net → Result SetRow Refusal → Net
row_gives net (Ok r) = put_gives net r.side r.activity r.set
row_gives net (Err r) = net

-- ---- reading a file

-- what each answer means
abbrev pub net_means : Result ⊤ Refused → Says
net_means answer = means (λ _. 0) answer

-- what is read: what the reader has to say and the net that it has to return
pub record FileReading : Type 0 where
  pub says : Says
  pub net : Net

abbrev pub read_as : Net → FileReading
read_as net = record { says = accepted 0; net = net }

-- a refused reading returns the fresh net of 0 and 1
abbrev pub refused_at : ℕ → ℕ → FileReading
refused_at n line = record { says = refused n line; net = fresh_net 0 1 }

abbrev pub refused_with : Refused → FileReading
refused_with r = refused_at (refusal_number r.refusal) r.place

-- the rows on the lines from line n on, into a net
unfoldable pub read_rows : ℕ → Net → List (List ℕ) → FileReading
read_rows n net [] = read_as net
read_rows n net (l ∷ ls) =
    unless_by refused_at (row_says net (read_set_row l)).ok (row_says net (read_set_row l)).refusal n
    (read_rows (n + 1) (row_gives net (read_set_row l)) ls)

-- line 3, the end row: 1 if the start is the end
abbrev pub after_end : ℕ → Result ℕ Refusal → List (List ℕ) → FileReading
after_end start (Ok end) ls = unless_by refused_at (not (eqb start end)) bad_ends 3 (read_rows 4 (fresh_net start end) ls)
after_end start (Err r) ls = refused_at (refusal_number r) 3

unfoldable pub from_end : ℕ → List (List ℕ) → FileReading
from_end start [] = refused_at line_form 3
from_end start (l ∷ ls) = after_end start (read_end end_word l) ls

-- line 2, the start row
abbrev pub after_start : Result ℕ Refusal → List (List ℕ) → FileReading
after_start (Ok start) ls = from_end start ls
after_start (Err r) ls = refused_at (refusal_number r) 2

unfoldable pub from_start : List (List ℕ) → FileReading
from_start [] = refused_at line_form 2
from_start (l ∷ ls) = after_start (read_end start_word l) ls

-- line 1, the header
unfoldable pub from_header : List (List ℕ) → FileReading
from_header [] = refused_at line_form 1
from_header (l ∷ ls) = unless_by refused_at (same_bytes l net_header) line_form 1 (from_start ls)

unfoldable pub read_net : List ℕ → FileReading
read_net text = unless_by refused_at (leb (length text) net_bytes) outside_limits 0 (from_header (lines text))

-- an answer and a net are what was to be read
pub record Reads (d : FileReading) (r : Returned ⊤) : Type 0 where
  pub says : net_means r.answer ≡ d.says
  pub gives : r.net ≡ d.net

-- ---- writing

-- the start row and the end row, and the row of a set
abbrev pub end_text : List ℕ → ℕ → List ℕ
end_text word a = join comma (word ∷ print_number a ∷ [] ∷ [])

abbrev pub set_row_text : Side → ℕ → ℕ → List ℕ
set_row_text side a m = join comma (side_word side ∷ print_number a ∷ print_members m ∷ [])

-- the rows of a set: the empty set has none
unfoldable pub set_lines : Side → ℕ → ℕ → List (List ℕ)
set_lines side a m = cond (eqb m 0) [] (set_row_text side a m ∷ [])

-- the rows of the sets on a side of activity a
unfoldable pub sets_lines : Side → ℕ → List ℕ → List (List ℕ)
sets_lines side a [] = []
sets_lines side a (m ∷ ms) = set_lines side a m ++ sets_lines side a ms

abbrev pub side_lines : Net → Side → ℕ → List (List ℕ)
side_lines net side a = sets_lines side a (sets_on net side a)

-- the rows of n activities from a on
unfoldable pub activity_lines : Net → ℕ → ℕ → List (List ℕ)
activity_lines net zero a = []
activity_lines net (suc n) a = side_lines net Input a ++ (side_lines net Output a ++ activity_lines net n (a + 1))

-- the header, the start row and the end row
unfoldable pub head_lines : ℕ → ℕ → List (List ℕ)
head_lines start end = net_header ∷ end_text start_word start ∷ end_text end_word end ∷ []

unfoldable pub net_lines : Net → List (List ℕ)
net_lines net = head_lines net.start net.end ++ activity_lines net activities 0

unfoldable pub net_text : Net → List ℕ
net_text net = unlines (net_lines net)

-- what each answer means: an accepted writing's value is the text's length
abbrev pub write_means : Result ℕ Refused → Says
write_means answer = means (λ n. n) answer

-- with a buffer of `room` bytes. 15: the text is longer than the buffer
abbrev pub write_refusals : Net → ℕ → List Sentence
write_refusals net room = not_orderly net ∷ whole text_too_long (room < length (net_text net)) ∷ []

-- what the writer has to say
unfoldable pub write_says : Net → ℕ → Says
write_says net room =
    unless (orderly net) disorderly
    (unless (leb (length (net_text net)) room) text_too_long
    (accepted (length (net_text net))))

-- the buffer after it: the text at its front if the call was accepted, and every other byte as it was
unfoldable pub write_gives : Net → List ℕ → List ℕ
write_gives net buf = cond (write_says net (length buf)).ok (net_text net ++ drop (length (net_text net)) buf) buf

pub record NetWritten (net : Net) (buf₀ : List ℕ) (r : Result ℕ Refused) (buf : List ℕ) : Type 0 where
  pub says : write_means r ≡ write_says net (length buf₀)
  pub gives : buf ≡ write_gives net buf₀
