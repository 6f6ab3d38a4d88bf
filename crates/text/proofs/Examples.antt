-- The definitions computed on short texts. Assumes nothing.
use Rattle.std.proofs.Common.{◌≡◌, refl, [], ◌∷◌, length, replicate, Some, None}
use Rattle.obligations.specs.Sets.{single, union, members}
use Rattle.text.specs.Lines.{lines}
use Rattle.text.specs.Decimal.{is_number, parse_number, print_number}
use Rattle.text.specs.Members.{are_members, parse_members, print_members}

-- 4294967296 is refused and not cut to 0, as is a number of 400 digits; 0 and the limit are read
large : (parse_number 31 (52 ∷ 50 ∷ 57 ∷ 52 ∷ 57 ∷ 54 ∷ 55 ∷ 50 ∷ 57 ∷ 54 ∷ []) ≡ None) × (parse_number 1000000 (replicate 400 49) ≡ None)
unfolding parse_number is_number
large = (refl, refl)

limits : (parse_number 31 (48 ∷ []) ≡ Some 0) × (parse_number 31 (51 ∷ 49 ∷ []) ≡ Some 31) × (parse_number 31 (51 ∷ 50 ∷ []) ≡ None)
unfolding parse_number is_number
limits = (refl, refl, refl)

-- empty, 00, 01, +1, 1 followed by a space, and 1 followed by a CR are no numbers
no_numbers :
    (parse_number 31 [] ≡ None)
    × (parse_number 31 (48 ∷ 48 ∷ []) ≡ None)
    × (parse_number 31 (48 ∷ 49 ∷ []) ≡ None)
    × (parse_number 31 (43 ∷ 49 ∷ []) ≡ None)
    × (parse_number 31 (49 ∷ 32 ∷ []) ≡ None)
    × (parse_number 31 (49 ∷ 13 ∷ []) ≡ None)
unfolding parse_number is_number
no_numbers = (refl, refl, refl, refl, refl, refl)

-- `1 2`; `2 1` and `2 2` don't ascend; two spaces, and a space at either end, leave an empty number
lists :
    (parse_members (49 ∷ 32 ∷ 50 ∷ []) ≡ Some 6)
    × (parse_members (50 ∷ 32 ∷ 49 ∷ []) ≡ None)
    × (parse_members (50 ∷ 32 ∷ 50 ∷ []) ≡ None)
    × (parse_members (49 ∷ 32 ∷ 32 ∷ 50 ∷ []) ≡ None)
    × (parse_members (32 ∷ 49 ∷ []) ≡ None)
    × (parse_members (49 ∷ 32 ∷ []) ≡ None)
    × (parse_members [] ≡ None)
unfolding parse_members are_members is_number single union
lists = (refl, refl, refl, refl, refl, refl, refl)

-- all 32 members are printed, and read as the set of all
all_printed : (length (print_members 4294967295) ≡ 85) × (parse_members (print_members 4294967295) ≡ Some 4294967295)
unfolding parse_members are_members is_number single union print_members print_number members
all_printed = (refl, refl)

-- no text has no line; CR LF ends one; two end two; an LF or a CR alone ends none, and of CR CR LF the first CR is a byte of its line
ends :
    (lines [] ≡ [])
    × (lines (97 ∷ 13 ∷ 10 ∷ []) ≡ (97 ∷ []) ∷ [])
    × (lines (97 ∷ 13 ∷ 10 ∷ 13 ∷ 10 ∷ []) ≡ (97 ∷ []) ∷ [] ∷ [])
    × (lines (97 ∷ 10 ∷ 98 ∷ 13 ∷ []) ≡ (97 ∷ 10 ∷ 98 ∷ 13 ∷ []) ∷ [])
    × (lines (97 ∷ 13 ∷ 13 ∷ 10 ∷ 98 ∷ []) ≡ (97 ∷ 13 ∷ []) ∷ (98 ∷ []) ∷ [])
ends = (refl, refl, refl, refl, refl)
