-- Laws of how many numbers below a limit pass a test, each by induction on the limit. Assumes nothing.
use Rattle.std.proofs.Common.{ℕ, zero, suc, ◌+◌, ◌≤◌, ◌<◌, ◌≡◌, refl, ap₂, ◌⊎◌, ⊎_elim, Bool, true, false, eq-or-lt_of_le, le_of_suc-le-suc, arith}
use Rattle.obligations.specs.Tests.{indicator, number}
use Rattle.obligations.proofs.BoolLaws.{false-not-true}

pub below_cases : (k n : ℕ) → k < suc n → (k ≡ n) ⊎ (k < n)
below_cases k n h = eq-or-lt_of_le (le_of_suc-le-suc h)

pub number_ext : (n : ℕ) (t u : ℕ → Bool) → ((k : ℕ) → k < n → t k ≡ u k) → number n t ≡ number n u
unfolding number
number_ext zero t u e = refl
number_ext (suc n) t u e = ap₂ (λ (c : ℕ) (b : Bool). c + indicator b) (number_ext n t u (λ k l. e k (omega arith))) (e n (omega arith))

-- the first number apart from the others
pub number-first : (n : ℕ) (t : ℕ → Bool) → number (suc n) t ≡ indicator (t 0) + number n (λ k. t (suc k))
unfolding number
number-first zero t = omega arith
number-first (suc n) t = omega (arith, number-first n t)

indicator_le : (a b : Bool) → (a ≡ true → b ≡ true) → indicator a ≤ indicator b
indicator_le true true h = omega arith
indicator_le true false h = absurd (false-not-true refl (h refl))
indicator_le false true h = omega arith
indicator_le false false h = omega arith

module _ (t u : ℕ → Bool) (more : (k : ℕ) → t k ≡ true → u k ≡ true) where
  pub number_le : (n : ℕ) → number n t ≤ number n u
  unfolding number
  number_le zero = omega arith
  number_le (suc n) = omega (arith, number_le n, indicator_le (t n) (u n) (more n))

  -- a test that passes for one number more passes for more
  pub number_lt : (n k : ℕ) → k < n → t k ≡ false → u k ≡ true → number n t < number n u
  unfolding number
  number_lt zero k h e p = absurd (omega arith)
  number_lt (suc n) k h e p =
      ⊎_elim (λ q. let a : indicator (t n) < indicator (u n) = here (rw (← q) e) (rw (← q) p) in omega (arith, number_le n))
      (λ l. omega (arith, number_lt n k l e p, indicator_le (t n) (u n) (more n))) (below_cases k n h)
    where
      here : t n ≡ false → u n ≡ true → indicator (t n) < indicator (u n)
      here a b = rw (a, b) (omega arith)
