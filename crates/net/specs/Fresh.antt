-- Fresh: the net of a start and an end with nothing but the two empty sets (01, "The net and its sets").
use Rattle.std.specs.Prelude.{ℕ, ◌≤◌, ◌≡◌, cond, List, [], ◌∷◌, ◌⊎◌, Result, ⊤, set}
use Rattle.obligations.specs.Limits.{activities}
use Rattle.net.specs.Limits.{places}
use Rattle.net.specs.Refusals.{Says, means, accepted, bad_ends}
use Rattle.net.specs.Sentences.{Sentence, whole}
use Rattle.net.specs.Chains.{unless}
use Rattle.net.specs.Lists.{blank}
use Rattle.net.specs.Sides.{uncounted_sides}
use Rattle.net.specs.Orderly.{ends_ok}
use Rattle.net.specs.declared.Net.{Net}
use Rattle.net.specs.declared.sides.Sides.{Sides}
use Rattle.net.specs.declared.refusal.Refused.{Refused}
use Rattle.net.specs.declared.Returned.{Returned}

-- sides that hold nothing but the empty set on activity a's
abbrev pub just_empty : ℕ → Sides
just_empty a = uncounted_sides (blank places) (set (blank activities) a 1)

unfoldable pub fresh_net : ℕ → ℕ → Net
fresh_net start end = record { start = start; end = end; inputs = just_empty start; outputs = just_empty end }

-- what each answer means
abbrev pub fresh_means : Result ⊤ Refused → Says
fresh_means answer = means (λ _. 0) answer

-- 1: start or end is above 31, or they are equal
abbrev pub BadEnds : ℕ → ℕ → Type 0
BadEnds start end = (activities ≤ start) ⊎ ((activities ≤ end) ⊎ (start ≡ end))

abbrev pub fresh_refusals : ℕ → ℕ → List Sentence
fresh_refusals start end = whole bad_ends (BadEnds start end) ∷ []

-- what fresh has to say, and the net it has to return
unfoldable pub fresh_says : ℕ → ℕ → Says
fresh_says start end = unless (ends_ok start end) bad_ends (accepted 0)

unfoldable pub fresh_gives : ℕ → ℕ → Net
fresh_gives start end = cond (ends_ok start end) (fresh_net start end) (fresh_net 0 1)

pub record FreshDone (start end : ℕ) (r : Returned ⊤) : Type 0 where
  pub says : fresh_means r.answer ≡ fresh_says start end
  pub gives : r.net ≡ fresh_gives start end
