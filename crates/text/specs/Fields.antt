-- Fields of a line: the parts between separators, and parts joined by a separator.
use Rattle.std.specs.Prelude.{ℕ, cond, List, [], ◌∷◌, ◌++◌, eqb}

-- the separators of the tables: a comma between a line's fields, a space between members
abbrev pub comma : ℕ
comma = 44

abbrev pub space : ℕ
space = 32

-- the parts with the byte b in front of the first
abbrev pub onto : ℕ → List (List ℕ) → List (List ℕ)
onto b [] = (b ∷ []) ∷ []
onto b (p ∷ ps) = (b ∷ p) ∷ ps

-- the parts between the separators c: one more than there are separators
abbrev pub split : ℕ → List ℕ → List (List ℕ)
split c [] = [] ∷ []
split c (b ∷ s) = cond (eqb b c) ([] ∷ split c s) (onto b (split c s))

-- each part with a separator in front
abbrev pub led : ℕ → List (List ℕ) → List ℕ
led c [] = []
led c (p ∷ ps) = c ∷ (p ++ led c ps)

-- the parts with a separator between them
abbrev pub join : ℕ → List (List ℕ) → List ℕ
join c [] = []
join c (p ∷ ps) = p ++ led c ps
