-- Byte strings, as lists of numbers: searching, counting and comparing.
use Rattle.std.specs.Prelude.{ℕ, suc, ◌+◌, Bool, cond, List, [], ◌∷◌, eqb, bytes_eq}
use Rattle.obligations.specs.Tests.{indicator}

-- how many bytes stand before the first c, or before the end
abbrev pub bytes_before : ℕ → List ℕ → ℕ
bytes_before c [] = 0
bytes_before c (b ∷ s) = cond (eqb b c) 0 (suc (bytes_before c s))

-- how many bytes are c
abbrev pub occurrences : ℕ → List ℕ → ℕ
occurrences c [] = 0
occurrences c (b ∷ s) = indicator (eqb b c) + occurrences c s

-- whether two byte strings are the same: what `==` says of two slices of bytes
abbrev pub same_bytes : List ℕ → List ℕ → Bool
same_bytes = bytes_eq
