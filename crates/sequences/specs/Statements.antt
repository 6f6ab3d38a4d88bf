-- What is proved of the definitions: each call is refused as listed, which sequences are learned and judged valid, what the net
-- then holds and has counted, that it depends on nothing but how often each set is used, that following is learning, and that judge
-- passes over counts. The proofs are in proofs/Theorems.antt.
use Rattle.std.specs.Prelude.{ℕ, ◌+◌, ◌*◌, ◌≤◌, ◌<◌, ◌≡◌, true, List, [], ◌∷◌, ◌↔◌, length, get_or}
use Rattle.obligations.specs.Limits.{activities, masks, positions}
use Rattle.obligations.specs.State.{nothing, total}
use Rattle.obligations.specs.Sequence.{bindings, words, WellFormed}
use Rattle.obligations.specs.declared.sequence.Binding.{Binding}
use Rattle.net.specs.Refusals.{accepted, refused, name_unanswered}
use Rattle.net.specs.Sentences.{Lowest, NoneHolds, AsListed}
use Rattle.net.specs.Sides.{SameButCounts, counts_on, net_size}
use Rattle.net.specs.Orderly.{Orderly}
use Rattle.net.specs.Common.{not_orderly, not_activities}
use Rattle.net.specs.Valid.{Valid}
use Rattle.net.specs.declared.Net.{Net}
use Rattle.net.specs.declared.sides.Side.{Side}
use Rattle.walks.specs.Walk.{Passes}
use Rattle.walks.specs.Check.{activity_on_no_walk, Unanswered}
use Rattle.sequences.specs.Limits.{activity_of, not_sequence}
use Rattle.sequences.specs.Run.{total_after, Peak, largest_total, output_sizes}
use Rattle.sequences.specs.Gain.{uses, occurrences_of, Fits, Countable, Gains, fits, countable}
use Rattle.sequences.specs.Learn.{learn_refusals, learn_says, learn_gives}
use Rattle.sequences.specs.Judge.{judge_refusals, judge_says}
use Rattle.sequences.specs.Follow.{followed, follow_refusals, follow_says, follow_gives}

-- ---- the refusals: each call is refused exactly as its sentences are listed, and else accepted

abbrev pub LearnListed : Type 0
LearnListed = (net : Net) (ws : List ℕ) → AsListed refused (learn_refusals net ws) (learn_says net ws)

abbrev pub FollowListed : Type 0
FollowListed = (net : Net) (trace : List ℕ) → AsListed refused (follow_refusals net trace) (follow_says net trace)

abbrev pub JudgeListed : Type 0
JudgeListed = (net : Net) (ws : List ℕ) → AsListed refused (judge_refusals net ws) (judge_says net ws)

-- judge says 19 exactly if none of 2, 3, 4 and 6 holds, with the lowest activity that names one which never names it back; what comes
-- after it doesn't matter
abbrev pub JudgeUnanswered : Type 0
JudgeUnanswered =
    (net : Net) (ws : List ℕ) (a : ℕ) → let s = bindings ws in
    (judge_says net ws ≡ refused name_unanswered a)
    ↔ (NoneHolds (not_orderly net ∷ not_sequence ws ∷ not_activities (length s) (activity_of s) ∷ activity_on_no_walk net ∷ []) × Lowest (Unanswered net) a)

-- ---- learn

-- what learn accepts: an orderly net, and words that are a sequence within the limits, well-formed for the net's start and
-- end, whose sets fit and whose uses can be counted
pub record Learnable (net : Net) (ws : List ℕ) : Type 0 where
  pub net_orderly : Orderly net
  pub count : ℕ
  pub whole : length ws ≡ 3 * count
  pub few : count ≤ positions
  pub well_formed : WellFormed net.start net.end (bindings ws)
  pub fitting : Fits net (bindings ws)
  pub counting : Countable net (bindings ws)

-- "well-formed and fits, which together mean that no refusal in these papers holds of the call", and since 02, (viii), countable
abbrev pub NoneHoldsLearnable : Type 0
NoneHoldsLearnable = (net : Net) (ws : List ℕ) → NoneHolds (learn_refusals net ws) ↔ Learnable net ws

-- that is what learn accepts, and the number of new sets is the growth of the net's own lists
abbrev pub LearnAccepts : Type 0
LearnAccepts =
    (net : Net) (ws : List ℕ) (new : ℕ)
    → (learn_says net ws ≡ accepted new) ↔ (Learnable net ws × (net_size (learn_gives net ws) ≡ net_size net + new))

-- the test that a sequence fits is the paper's, of a sequence that is well-formed
abbrev pub FitsTestRight : Type 0
FitsTestRight = (net : Net) (s : List Binding) → Orderly net → WellFormed net.start net.end s → (fits net s ≡ true) ↔ Fits net s

-- and the test that its uses can be counted, of one that also fits
abbrev pub CountableTestRight : Type 0
CountableTestRight = (net : Net) (s : List Binding) → Orderly net → WellFormed net.start net.end s → fits net s ≡ true → (countable net s ≡ true) ↔ Countable net s

-- an accepted learn returns the net with exactly the sequence's sets more, and with their uses counted
abbrev pub LearnHolds : Type 0
LearnHolds = (net : Net) (ws : List ℕ) (new : ℕ) → learn_says net ws ≡ accepted new → Gains net (bindings ws) (learn_gives net ws)

-- the counts on each side of an activity then add up to as many more as the activity has occurrences in the sequence
abbrev pub LearnAddsUp : Type 0
LearnAddsUp =
    (net : Net) (ws : List ℕ) (new : ℕ) → learn_says net ws ≡ accepted new
    → (side : Side) (a : ℕ) → total (counts_on (learn_gives net ws) side a) ≡ total (counts_on net side a) + occurrences_of (bindings ws) a

-- two sequences use each set on each activity's side equally often
abbrev pub SameUses : List Binding → List Binding → Type 0
SameUses s s' = (side : Side) (a m : ℕ) → uses side s a m ≡ uses side s' a m

-- what a net gains depends on nothing else: by sequences with the same uses it becomes the same net, word for word (02, (ix))
abbrev pub GainsDetermined : Type 0
GainsDetermined = (net : Net) (s s' : List Binding) (after after' : Net) → SameUses s s' → Gains net s after → Gains net s' after' → after ≡ after'

-- an accepted sequence is valid in the net that learn returns
abbrev pub LearnValid : Type 0
LearnValid = (net : Net) (ws : List ℕ) (new : ℕ) → learn_says net ws ≡ accepted new → Valid (learn_gives net ws) (bindings ws)

-- a refused learn or follow returns the very net given
abbrev pub RefusedSame : Type 0
RefusedSame =
    (net : Net) (ws : List ℕ) (n p : ℕ)
    → (learn_says net ws ≡ refused n p → learn_gives net ws ≡ net) × (follow_says net ws ≡ refused n p → follow_gives net ws ≡ net)

-- following a trace is learning its sequence, whatever the net and the trace are
pub record FollowIsLearn (net : Net) (trace : List ℕ) : Type 0 where
  pub says : follow_says net trace ≡ learn_says net (words (followed trace))
  pub gives : follow_gives net trace ≡ learn_gives net (words (followed trace))

abbrev pub FollowLearns : Type 0
FollowLearns = (net : Net) (trace : List ℕ) → FollowIsLearn net trace

-- ---- judge

-- what judge accepts: a net that passes, and words that are a sequence within the limits and valid in it
pub record Judgeable (net : Net) (ws : List ℕ) : Type 0 where
  pub passes : Passes net
  pub count : ℕ
  pub whole : length ws ≡ 3 * count
  pub few : count ≤ positions
  pub valid : Valid net (bindings ws)

abbrev pub NoneHoldsJudgeable : Type 0
NoneHoldsJudgeable = (net : Net) (ws : List ℕ) → NoneHolds (judge_refusals net ws) ↔ Judgeable net ws

-- that is what judge accepts, and the number that it gives is the sequence's peak
abbrev pub JudgeAccepts : Type 0
JudgeAccepts = (net : Net) (ws : List ℕ) (peak : ℕ) → (judge_says net ws ≡ accepted peak) ↔ (Judgeable net ws × Peak (bindings ws) peak)

-- the peak as it is computed is the peak, of a sequence that has positions
abbrev pub LargestIsPeak : Type 0
LargestIsPeak = (s : List Binding) (peak : ℕ) → 0 < length s → (largest_total nothing s ≡ peak) ↔ Peak s peak

-- 01's bounds of the number that judge gives: at least the total of counts after any position, at most the sum of the sizes
-- of all Y
abbrev pub PeakWithin : Type 0
PeakWithin =
    (net : Net) (ws : List ℕ) (peak : ℕ) → judge_says net ws ≡ accepted peak
    → ((i : ℕ) → i < length (bindings ws) → total_after (bindings ws) i ≤ peak) × (peak ≤ output_sizes (bindings ws))

-- and it is below 32 times the limit of positions
abbrev pub PeakBelow : Type 0
PeakBelow = (net : Net) (ws : List ℕ) (peak : ℕ) → judge_says net ws ≡ accepted peak → peak < activities * positions

-- judge passes over the counts of orderly records (02, (viii))
abbrev pub JudgePassesOver : Type 0
JudgePassesOver = (net other : Net) (ws : List ℕ) → Orderly net → Orderly other → SameButCounts net other → judge_says net ws ≡ judge_says other ws

-- each word is of 32 bits, as every word in a program is
abbrev pub Words : List ℕ → Type 0
Words ws = (i : ℕ) → get_or ws i 0 < masks
