-- The refusals of net reading as sentences, by line (01, "The tables" and "Refused, lowest number first"). The first line of which
-- a sentence holds decides, so no sentence says again that the lines before its own are right. What a start row, an end row and a
-- set's row are is said by the texts that the writer writes.
use Rattle.std.specs.Prelude.{ℕ, zero, suc, ◌≤◌, ◌<◌, ◌≡◌, List, [], ◌∷◌, ◌⊎◌, length, get_or}
use Rattle.obligations.specs.Limits.{activities, masks}
use Rattle.text.specs.Bytes.{occurrences}
use Rattle.text.specs.Lines.{HasLine, line_at}
use Rattle.text.specs.Fields.{comma, split}
use Rattle.text.specs.Decimal.{print_number}
use Rattle.text.specs.Members.{print_members}
use Rattle.net.specs.Limits.{sets}
use Rattle.net.specs.Refusals.{bad_ends, outside_limits, misplaced_set, full_side, line_form, number_form}
use Rattle.net.specs.Sentences.{Sentence, whole}
use Rattle.net.specs.Lists.{AtMost}
use Rattle.net.specs.declared.sides.Side.{Side}
use Rattle.net.specs.declared.sides.Side.TheVariants.{Input, Output}
use Rattle.netfile.specs.Limits.{net_bytes}
use Rattle.netfile.specs.NetFile.{net_header, start_word, end_word, side_word, end_text, set_row_text}

-- ---- a line and its fields

-- the parts of a line with two commas: its word, its number and what follows the second comma
abbrev pub word_of : List ℕ → List ℕ
word_of line = get_or (split comma line) 0 []

abbrev pub number_in : List ℕ → List ℕ
number_in line = get_or (split comma line) 1 []

abbrev pub members_in : List ℕ → List ℕ
members_in line = get_or (split comma line) 2 []

-- a line is the start row or the end row of activity a, as it is written
pub record IsEnd (word : List ℕ) (a : ℕ) (line : List ℕ) : Type 0 where
  pub is_text : line ≡ end_text word a
  pub is_activity : a < activities

-- a line is the row of the set m on activity a's side, as it is written
pub record IsSetRow (side : Side) (a m : ℕ) (line : List ℕ) : Type 0 where
  pub is_text : line ≡ set_row_text side a m
  pub is_activity : a < activities
  pub not_empty : 0 < m
  pub is_mask : m < masks

-- ---- the start row and the end row

-- 13: the line hasn't two commas, its word is another, or members are present
pub data EndFormWrong (word line : List ℕ) : Type 0 where
  end_commas : (occurrences comma line ≡ 2 → ⊥) → EndFormWrong word line
  end_word_wrong : (word_of line ≡ word → ⊥) → EndFormWrong word line
  end_members : (members_in line ≡ [] → ⊥) → EndFormWrong word line

-- 14: the number isn't an activity as it is printed
abbrev pub ActivityWrong : List ℕ → Type 0
ActivityWrong line = (a : ℕ) → a < activities → number_in line ≡ print_number a → ⊥

-- 1: start and end are equal
pub record SameEnds (text : List ℕ) : Type 0 where
  pub activity : ℕ
  pub is_start : IsEnd start_word activity (line_at text 2)
  pub is_end : IsEnd end_word activity (line_at text 3)

-- ---- a set's row

-- 13: the line hasn't two commas, its word is no side's, or its members are missing
pub data RowFormWrong (line : List ℕ) : Type 0 where
  row_commas : (occurrences comma line ≡ 2 → ⊥) → RowFormWrong line
  row_word : ((side : Side) → word_of line ≡ side_word side → ⊥) → RowFormWrong line
  row_members : members_in line ≡ [] → RowFormWrong line

-- 14: the members aren't those of a set as they are printed
abbrev pub MembersWrong : List ℕ → Type 0
MembersWrong line = (m : ℕ) → 0 < m → m < masks → members_in line ≡ print_members m → ⊥

-- the side that holds just the empty set: the start's inputs, the end's outputs
abbrev pub HoldsEmpty : List ℕ → Side → ℕ → Type 0
HoldsEmpty text Input a = IsEnd start_word a (line_at text 2)
HoldsEmpty text Output a = IsEnd end_word a (line_at text 3)

-- 5: the row's set is on a side that must hold only the empty set
pub record MisplacedRow (text : List ℕ) (n : ℕ) : Type 0 where
  pub side : Side
  pub activity : ℕ
  pub set : ℕ
  pub is_row : IsSetRow side activity set (line_at text n)
  pub only_empty : HoldsEmpty text side activity

-- a line from 4 to n is the row of m on activity a's side
pub record RowUpTo (text : List ℕ) (n : ℕ) (side : Side) (a m : ℕ) : Type 0 where
  pub line : ℕ
  pub low : 4 ≤ line
  pub high : line ≤ n
  pub is_row : IsSetRow side a m (line_at text line)

-- 12: with the row's set its side would exceed 16 sets
pub record FullSide (text : List ℕ) (n : ℕ) : Type 0 where
  pub side : Side
  pub activity : ℕ
  pub set : ℕ
  pub is_row : IsSetRow side activity set (line_at text n)
  pub too_many : AtMost sets (RowUpTo text n side activity) → ⊥

-- ---- the sentences of each line

abbrev pub end_refusals : List ℕ → ℕ → List ℕ → List Sentence → List Sentence
end_refusals text n word others =
    whole line_form ((HasLine text n → ⊥) ⊎ EndFormWrong word (line_at text n))
    ∷ whole number_form (ActivityWrong (line_at text n))
    ∷ others

abbrev pub set_row_refusals : List ℕ → ℕ → List Sentence
set_row_refusals text n =
    whole line_form (HasLine text n × RowFormWrong (line_at text n))
    ∷ whole number_form (HasLine text n × (ActivityWrong (line_at text n) ⊎ MembersWrong (line_at text n)))
    ∷ whole misplaced_set (MisplacedRow text n)
    ∷ whole full_side (FullSide text n)
    ∷ []

-- line 0 is the whole file, line 1 the header, line 2 the start row, line 3 the end row, and each line after it a set's row.
-- 3: the file exceeds its bytes. 13 of the header: it is missing or differs in any byte
abbrev pub net_refusals : List ℕ → ℕ → List Sentence
net_refusals text zero = whole outside_limits (net_bytes < length text) ∷ []
net_refusals text (suc zero) = whole line_form ((HasLine text 1 → ⊥) ⊎ (line_at text 1 ≡ net_header → ⊥)) ∷ []
net_refusals text (suc (suc zero)) = end_refusals text 2 start_word []
net_refusals text (suc (suc (suc zero))) = end_refusals text 3 end_word (whole bad_ends (SameEnds text) ∷ [])
net_refusals text (suc (suc (suc (suc n)))) = set_row_refusals text (suc (suc (suc (suc n))))
