-- Sets of activities as masks (01, "The net and its sets"): bit k of a mask says whether activity k is a member.
use Rattle.std.specs.Prelude.{ℕ, zero, suc, ◌-◌, ◌/◌, ◌%◌, ◌^◌, Bool, cond, List, [], ◌∷◌, eqb, ltb, length}
use Rattle.std.specs.Int.Bits.{bit_and, bit_or}
use Rattle.obligations.specs.Limits.{activities, masks}

-- bit k of a mask, 0 or 1
unfoldable pub bit : ℕ → ℕ → ℕ
bit m k = m / 2 ^ k % 2

-- k is a member of the set m
unfoldable pub member : ℕ → ℕ → Bool
member m k = eqb (bit m k) 1

-- the set of k alone; a number above 31 is no activity, and nothing is a member then
unfoldable pub single : ℕ → ℕ
single k = cond (ltb k activities) (2 ^ k) 0

-- the members of m or n
unfoldable pub union : ℕ → ℕ → ℕ
union m n = bit_or m n

-- the members of m that are not members of n
unfoldable pub minus : ℕ → ℕ → ℕ
minus m n = bit_and m ((masks - 1) - n)

-- each member of m is a member of n
unfoldable pub subset : ℕ → ℕ → Bool
subset m n = eqb (minus m n) 0

-- k before ks if the digit b is set
unfoldable pub keep : ℕ → ℕ → List ℕ → List ℕ
keep zero k ks = ks
keep (suc b) k ks = k ∷ ks

-- the members of a mask of n digits, ascending, where the lowest digit stands for k
unfoldable pub members_from : ℕ → ℕ → ℕ → List ℕ
unfolding keep
members_from zero k m = []
members_from (suc n) k m = keep (m % 2) k (members_from n (suc k) (m / 2))

-- the members of a set, ascending
unfoldable pub members : ℕ → List ℕ
unfolding members_from
members m = members_from activities 0 m

-- how many members a set has
unfoldable pub size : ℕ → ℕ
size m = length (members m)
