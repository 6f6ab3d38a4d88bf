-- Positions numbered by a range from 1 beside the walk over them. The range ends where 32 bits do, far behind the last position that
-- a sequence may have, so that the pair of the two ends with the walk.
use Rattle.std.proofs.Common.{ℕ, ◌≡◌, ◌+◌, ◌-◌, ◌<◌, ◌≤◌, arith, ◌∙◌}
use Rattle.obligations.specs.Limits.{positions}

-- Of n positions those before `next` are passed, and P holds of their number.
pub record Numbered (n : ℕ) (P : ℕ → Type 0) (next : ℕ) : Type 0 where
  pub passed : ℕ
  pub follows : next ≡ passed + 1
  pub inside : passed ≤ n
  pub holds : P passed

pub numbered_first : (n : ℕ) (P : ℕ → Type 0) (next : ℕ) → next ≡ 1 → P 0 → Numbered n P next
numbered_first n P next e p = record { passed = 0; follows = omega (arith, e); inside = omega arith; holds = p }

pub range_left : (n : ℕ) (P : ℕ → Type 0) (next : ℕ) → Numbered n P next → n ≤ positions → 4294967295 - next ≡ 0 → ⊥
range_left n P next r few e = omega (arith, r.follows, r.inside, few, e)

module _ (n : ℕ) (P : ℕ → Type 0) (next : ℕ) (r : Numbered n P next) (position : ℕ) (e : position ≡ next) where
  pub numbered : position ≡ r.passed + 1
  numbered = e ∙ r.follows

  pub numbered_next : (P' : ℕ → Type 0) (next' : ℕ) → next' ≡ position + 1 → r.passed < n → P' (r.passed + 1) → Numbered n P' next'
  numbered_next P' next' s i p = record { passed = r.passed + 1; follows = omega (arith, s, numbered); inside = omega (arith, i); holds = p }
