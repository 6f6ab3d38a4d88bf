-- What is proved of the definitions: what was written is read as it was, and nothing else is read as the same number or
-- the same set. The proofs are in proofs/Theorems.antt.
use Rattle.std.specs.Prelude.{ℕ, suc, ◌^◌, ◌≤◌, ◌<◌, ◌≡◌, ◌↔◌, length, Some}
use mathlib.Core.List.{List, ◌∷◌, Memᴰ}
use Rattle.obligations.specs.Limits.{masks}
use Rattle.text.specs.Bytes.{occurrences}
use Rattle.text.specs.Lines.{cr, lines, unlines}
use Rattle.text.specs.Fields.{split, join}
use Rattle.text.specs.Decimal.{parse_number, print_number}
use Rattle.text.specs.Members.{parse_members, print_members}

-- what is read as a number is that number's print and no other text: so no leading zero, no sign, no space
abbrev pub NumberRead : Type 0
NumberRead = (limit n : ℕ) (s : List ℕ) → limit < 10 ^ 20 → (parse_number limit s ≡ Some n) ↔ ((s ≡ print_number n) × (n ≤ limit))

-- what is read as a member list is that set's print and no other text: so single spaces, ascending, no number twice; the
-- empty set's print is empty, and no member list
abbrev pub MembersRead : Type 0
MembersRead = (s : List ℕ) (m : ℕ) → (parse_members s ≡ Some m) ↔ ((s ≡ print_members m) × (0 < m) × (m < masks))

-- lines that hold no CR are read as they were written
abbrev pub LinesBack : Type 0
LinesBack = (ls : List (List ℕ)) → ((l : List ℕ) → Memᴰ l ls → occurrences cr l ≡ 0) → lines (unlines ls) ≡ ls

-- fields that hold no separator, at least one of them, are split as they were joined
abbrev pub FieldsBack : Type 0
FieldsBack = (c : ℕ) (p : List ℕ) (ps : List (List ℕ)) → ((q : List ℕ) → Memᴰ q (p ∷ ps) → occurrences c q ≡ 0) → split c (join c (p ∷ ps)) ≡ p ∷ ps

-- the fields of a line, joined again, are the line
abbrev pub FieldsJoined : Type 0
FieldsJoined = (c : ℕ) (s : List ℕ) → join c (split c s) ≡ s

-- a line has one field more than separators
abbrev pub OneMoreField : Type 0
OneMoreField = (c : ℕ) (s : List ℕ) → length (split c s) ≡ suc (occurrences c s)
