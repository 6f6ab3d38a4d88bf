-- Traces, and the activities of a sequence, position by position (01, refusals 4 and 7). n positions are given by the
-- activity of each: `activity_at i` is that of the position with i others before it.
use Rattle.std.specs.Prelude.{ℕ, ◌+◌, ◌≤◌, ◌<◌, ◌≡◌, Bool, ◌&&◌, ◌↔◌, eqb, leb, ltb}
use Rattle.std.specs.Bool.{beq}
use Rattle.obligations.specs.Limits.{activities}
use Rattle.obligations.specs.Tests.{first_failing}

-- the first position with a number above 31, or 0
unfoldable pub first_no_activity : ℕ → (ℕ → ℕ) → ℕ
first_no_activity n activity_at = first_failing n (λ i. ltb (activity_at i) activities)

-- at the position after i others: the start exactly if it is the first, the end exactly if it is the last
unfoldable pub ends_agree : ℕ → ℕ → ℕ → (ℕ → ℕ) → ℕ → Bool
ends_agree start end n activity_at i = beq (eqb (activity_at i) start) (eqb i 0) && beq (eqb (activity_at i) end) (eqb (i + 1) n)

-- at least two positions, start and end first, last and nowhere else
unfoldable pub shaped : ℕ → ℕ → ℕ → (ℕ → ℕ) → Bool
shaped start end n activity_at = leb 2 n && eqb (first_failing n (ends_agree start end n activity_at)) 0

-- the same as facts
pub record Shaped (start end n : ℕ) (activity_at : ℕ → ℕ) : Type 0 where
  pub two : 2 ≤ n
  pub start_first_only : (i : ℕ) → i < n → (activity_at i ≡ start) ↔ (i ≡ 0)
  pub end_last_only : (i : ℕ) → i < n → (activity_at i ≡ end) ↔ (i + 1 ≡ n)
