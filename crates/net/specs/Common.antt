-- The sentences that several calls share (01, "Refused, lowest number first").
use Rattle.std.specs.Prelude.{ℕ, ◌≤◌}
use Rattle.obligations.specs.Limits.{activities}
use Rattle.obligations.specs.Trace.{Shaped}
use Rattle.net.specs.Refusals.{disorderly, no_activity, wrong_ends}
use Rattle.net.specs.Sentences.{Sentence, whole, first}
use Rattle.net.specs.Orderly.{Orderly}
use Rattle.net.specs.declared.Net.{Net}

-- 2: the record isn't orderly
abbrev pub not_orderly : Net → Sentence
not_orderly net = whole disorderly (Orderly net → ⊥)

-- of n positions, where `activity_at i` is the activity of the one with i others before it.
-- 4: an activity is above 31; the first position is returned
abbrev pub not_activities : ℕ → (ℕ → ℕ) → Sentence
not_activities n activity_at = first no_activity n (λ i. activities ≤ activity_at i)

-- 7: under two positions, or start and end aren't first, last and nowhere else
abbrev pub not_shaped : Net → ℕ → (ℕ → ℕ) → Sentence
not_shaped net n activity_at = whole wrong_ends (Shaped net.start net.end n activity_at → ⊥)
