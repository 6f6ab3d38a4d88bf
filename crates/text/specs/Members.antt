-- Member lists (01, "The tables"): activities in ascending order, separated by one space, and the set that they are.
use Rattle.std.specs.Prelude.{ℕ, ◌+◌, ◌-◌, Bool, true, ◌&&◌, cond, List, [], ◌∷◌, map, leb, Option, Some, None}
use Rattle.obligations.specs.Limits.{activities}
use Rattle.obligations.specs.Sets.{single, union, members}
use Rattle.text.specs.Fields.{space, split, join}
use Rattle.text.specs.Decimal.{all_numbers, values, print_number}

-- the highest activity
abbrev pub highest : ℕ
highest = activities - 1

-- each number is above the one before it, and the first is at least low
abbrev pub ascends_from : ℕ → List ℕ → Bool
ascends_from low [] = true
ascends_from low (k ∷ ks) = leb low k && ascends_from (k + 1) ks

-- a set with the members ks added
abbrev pub with_all : ℕ → List ℕ → ℕ
with_all m [] = m
with_all m (k ∷ ks) = with_all (union m (single k)) ks

-- the fields are activities in ascending order
unfoldable pub are_members : List (List ℕ) → Bool
are_members fs = all_numbers highest fs && ascends_from 0 (values fs)

-- the set that a text says, if the text is a member list
unfoldable pub parse_members : List ℕ → Option ℕ
parse_members s = cond (are_members (split space s)) (Some (with_all 0 (values (split space s)))) None

-- the member list of a set
unfoldable pub print_members : ℕ → List ℕ
print_members m = join space (map print_number (members m))
