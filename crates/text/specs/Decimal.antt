-- Decimal numbers (01, "The tables"): a number has no leading zero, save 0. Reading knows no width: a value is a natural
-- number and is compared with its column's limit as it is.
use Rattle.std.specs.Prelude.{ℕ, zero, suc, ◌+◌, ◌*◌, ◌-◌, ◌/◌, ◌%◌, Bool, true, false, ◌&&◌, ◌||◌, not, cond, List, [], ◌∷◌, ◌++◌, map, leb, ltb, eqb, Option, Some, None}

-- ---- reading

abbrev pub is_digit : ℕ → Bool
is_digit b = leb 48 b && leb b 57

abbrev pub all_digits : List ℕ → Bool
all_digits [] = true
all_digits (b ∷ s) = is_digit b && all_digits s

-- the value of digits that follow digits of value v
abbrev pub value_from : ℕ → List ℕ → ℕ
value_from v [] = v
value_from v (b ∷ s) = value_from (v * 10 + (b - 48)) s

abbrev pub value : List ℕ → ℕ
value s = value_from 0 s

abbrev pub is_empty : List ℕ → Bool
is_empty [] = true
is_empty (b ∷ s) = false

-- not empty, and no 0 before another byte
abbrev pub well_led : List ℕ → Bool
well_led [] = false
well_led (b ∷ s) = is_empty s || not (eqb b 48)

-- a number that is at most the limit
unfoldable pub is_number : ℕ → List ℕ → Bool
is_number limit s = well_led s && (all_digits s && leb (value s) limit)

-- the number that a field says, if it says one that is at most the limit
unfoldable pub parse_number : ℕ → List ℕ → Option ℕ
parse_number limit s = cond (is_number limit s) (Some (value s)) None

-- each field is a number that is at most the limit, and their values
abbrev pub all_numbers : ℕ → List (List ℕ) → Bool
all_numbers limit [] = true
all_numbers limit (f ∷ fs) = is_number limit f && all_numbers limit fs

abbrev pub values : List (List ℕ) → List ℕ
values fs = map value fs

-- ---- writing

-- the last digit of n
abbrev pub digit : ℕ → ℕ
digit n = 48 + n % 10

-- the last k digits of n
abbrev pub last_digits : ℕ → ℕ → List ℕ
last_digits zero n = []
last_digits (suc k) n = last_digits k (n / 10) ++ (digit n ∷ [])

-- n with at most f digits before the last: the number without its last digit, and that digit
abbrev pub decimal : ℕ → ℕ → List ℕ
decimal zero n = digit n ∷ []
decimal (suc f) n = cond (ltb n 10) (digit n ∷ []) (decimal f (n / 10) ++ (digit n ∷ []))

-- n in decimal, where n is below 10 ^ 20, as every number of 64 bits is
unfoldable pub print_number : ℕ → List ℕ
print_number n = decimal 19 n
