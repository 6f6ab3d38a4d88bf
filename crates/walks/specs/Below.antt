-- Tests of all numbers below a bound: whether one passes, and which do; and sums.
use Rattle.std.specs.Prelude.{ℕ, zero, suc, ◌+◌, Bool, true, false, ◌||◌}
use Rattle.obligations.specs.Limits.{activities}
use Rattle.obligations.specs.Sets.{single, union}

-- the test passes for some number below n
unfoldable pub any_below : ℕ → (ℕ → Bool) → Bool
any_below zero test = false
any_below (suc n) test = any_below n test || test n

-- the sum of f at each number below n
unfoldable pub sum_below : ℕ → (ℕ → ℕ) → ℕ
sum_below zero f = 0
sum_below (suc n) f = sum_below n f + f n

-- the set m, with k if the test has passed
unfoldable pub with_if : Bool → ℕ → ℕ → ℕ
with_if true k m = union m (single k)
with_if false k m = m

-- the set of the numbers below n that pass the test
unfoldable pub those_below : ℕ → (ℕ → Bool) → ℕ
those_below zero test = 0
those_below (suc n) test = with_if (test n) n (those_below n test)

-- the set of the activities that pass the test
unfoldable pub those : (ℕ → Bool) → ℕ
those test = those_below activities test
