-- Lines (01, "The tables"): a line is all bytes up to the next CR LF or the text's end, and no line follows a CR LF that
-- ends the text. A CR or an LF alone is a byte like any other.
use Rattle.std.specs.Prelude.{ℕ, ◌-◌, ◌≤◌, Bool, false, ◌&&◌, cond, List, [], ◌∷◌, ◌++◌, eqb, length, get_or}
use Rattle.text.specs.Fields.{onto}

abbrev pub cr : ℕ
cr = 13

abbrev pub lf : ℕ
lf = 10

-- whether a text begins with CR LF
abbrev pub starts_cr_lf : List ℕ → Bool
starts_cr_lf [] = false
starts_cr_lf (a ∷ []) = false
starts_cr_lf (a ∷ b ∷ s) = eqb a cr && eqb b lf

-- the lines of a text
abbrev pub lines : List ℕ → List (List ℕ)
lines [] = []
lines (a ∷ []) = (a ∷ []) ∷ []
lines (a ∷ b ∷ s) = cond (starts_cr_lf (a ∷ b ∷ s)) ([] ∷ lines s) (onto a (lines (b ∷ s)))

-- a text has a line n, counted from 1, and that line
abbrev pub HasLine : List ℕ → ℕ → Type 0
HasLine text n = n ≤ length (lines text)

abbrev pub line_at : List ℕ → ℕ → List ℕ
line_at text n = get_or (lines text) (n - 1) []

-- the text of lines that all end in CR LF
abbrev pub unlines : List (List ℕ) → List ℕ
unlines [] = []
unlines (l ∷ ls) = l ++ (cr ∷ lf ∷ unlines ls)
