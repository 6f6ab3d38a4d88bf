-- What a replay answers (01, "Replay"), whatever its number of trials: the definitions that the contract of replay cites. Of the
-- buffer an answer depends on its length alone.
use Rattle.std.specs.Prelude.{ℕ, ◌≤◌, ◌≡◌, Ok, List, length}
use Rattle.net.specs.declared.Net.{Net}
use Rattle.search.specs.Search.{trials_of}
use Rattle.search.specs.Replay.{says_refused, replay_means, replayed, replay_says}
use Rattle.search.specs.declared.Outcome.TheVariants.{Found, Failed}

abbrev pub SaysFound : Net → List ℕ → ℕ → List ℕ → Type 0
SaysFound net trace budget out = (n : ℕ) × (replay_says net trace budget (length out) ≡ replay_means (Ok (Found n)))

abbrev pub SaysNone : Net → List ℕ → ℕ → List ℕ → Type 0
SaysNone net trace budget out = (n : ℕ) × (replay_says net trace budget (length out) ≡ replay_means (Ok (Failed n)))

abbrev pub ReplayNotRefused : Net → List ℕ → ℕ → List ℕ → Type 0
ReplayNotRefused net trace budget out = (number place : ℕ) → replay_says net trace budget (length out) ≡ says_refused number place → ⊥

-- the search without a budget counts no more trials than this
abbrev pub EndsWithin : Net → List ℕ → ℕ → Type 0
EndsWithin net trace budget = trials_of (replayed net trace) ≤ budget
