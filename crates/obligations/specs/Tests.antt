-- Tests over the numbers below a limit: how many pass, and the first that fails.
use Rattle.std.specs.Prelude.{ℕ, zero, suc, ◌+◌, Bool, true, false, cond, Option, Some, None}

-- 1 if the test passes, else 0
abbrev pub indicator : Bool → ℕ
indicator true = 1
indicator false = 0

-- how many numbers below n pass the test
unfoldable pub number : ℕ → (ℕ → Bool) → ℕ
number zero test = 0
number (suc n) test = number n test + indicator (test n)

-- the first of n positions at which the test fails, counted from 1, or 0 if it fails at none; k positions stand before
unfoldable pub first_from : ℕ → ℕ → (ℕ → Bool) → ℕ
first_from k zero test = 0
first_from k (suc n) test = let rest = first_from (suc k) n test in cond (test k) rest (suc k)

-- the same with none before: the test is given how many positions stand before the one tested
unfoldable pub first_failing : ℕ → (ℕ → Bool) → ℕ
first_failing n test = first_from 0 n test

-- a position counted from 1, as an answer: 0 stands for none
unfoldable pub position_of : ℕ → Option ℕ
position_of zero = None
position_of (suc i) = Some (suc i)
