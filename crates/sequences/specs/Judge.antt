-- Judge (01, "Net check and judge"): refusals 2, 3, 4, 6, 19 (02, (iv)), 7, 8, 10, 11 in this order; else the peak (02, (i)).
use Rattle.std.specs.Prelude.{ℕ, Bool, ◌&&◌, List, [], ◌∷◌, Result, length}
use Rattle.obligations.specs.Tests.{first_failing}
use Rattle.obligations.specs.Trace.{shaped}
use Rattle.obligations.specs.State.{nothing, all_zero}
use Rattle.obligations.specs.Sequence.{bindings, at, ψ, first_impossible}
use Rattle.obligations.specs.declared.sequence.Binding.{Binding}
use Rattle.net.specs.Lists.{listed}
use Rattle.net.specs.Refusals.{Says, means, accepted, disorderly, wrong_ends, missing_set, not_possible, left_over}
use Rattle.net.specs.Sentences.{Sentence, first}
use Rattle.net.specs.Chains.{unless, none_at}
use Rattle.net.specs.Sides.{sets_on, OnSide}
use Rattle.net.specs.Orderly.{orderly}
use Rattle.net.specs.Common.{not_orderly, not_activities, not_shaped}
use Rattle.net.specs.declared.Net.{Net}
use Rattle.net.specs.declared.sides.Side.{Side}
use Rattle.net.specs.declared.sides.Side.TheVariants.{Input, Output}
use Rattle.walks.specs.Check.{activity_on_no_walk, unanswered_name, passing}
use Rattle.sequences.specs.Limits.{activity_of, not_sequence, within_limits}
use Rattle.sequences.specs.Run.{not_all_possible, obligations_left, largest_total}
use Rattle.sequences.specs.Gain.{set_for}
use Rattle.net.specs.declared.refusal.Refused.{Refused}

-- what each answer means: an accepted one's value is the peak
abbrev pub judge_means : Result ℕ Refused → Says
judge_means answer = means (λ peak. peak) answer

-- ---- the refusals

-- 8: a position's X or Y isn't in the net; i is the number of positions before it
abbrev pub Missing : Net → List Binding → ℕ → Type 0
Missing net s i = OnSide net Input (at s i).activity (at s i).input × OnSide net Output (at s i).activity (at s i).output → ⊥

abbrev pub judge_refusals : Net → List ℕ → List Sentence
judge_refusals net ws =
    let s = bindings ws in
    not_orderly net
    ∷ not_sequence ws
    ∷ not_activities (length s) (activity_of s)
    ∷ activity_on_no_walk net
    ∷ unanswered_name net
    ∷ not_shaped net (length s) (activity_of s)
    ∷ first missing_set (length s) (Missing net s)
    ∷ not_all_possible s
    ∷ obligations_left s
    ∷ []

-- ---- what is said

-- the set that the binding after i others has for a kind of side is on its activity's side
unfoldable pub on_side_at : Net → Side → List Binding → ℕ → Bool
on_side_at net side s i = listed (set_for side (at s i)) (sets_on net side (at s i).activity)

-- the first position whose X or Y isn't in the net, or 0
unfoldable pub first_missing : Net → List Binding → ℕ
first_missing net s = first_failing (length s) (λ i. on_side_at net Input s i && on_side_at net Output s i)

-- refusals 10 and 11, and the peak
unfoldable pub run_says : List Binding → Says
run_says s = none_at (first_impossible s) not_possible (unless (all_zero (ψ s)) left_over (accepted (largest_total nothing s)))

-- refusals 6, 19, 7 and 8, then those, of a sequence within the limits
unfoldable pub judge_positions : Net → List Binding → Says
judge_positions net s =
    passing net
    (unless (shaped net.start net.end (length s) (activity_of s)) wrong_ends
    (none_at (first_missing net s) missing_set
    (run_says s)))

-- refusals 2, 3 and 4, then those
unfoldable pub judge_says : Net → List ℕ → Says
judge_says net ws = unless (orderly net) disorderly (within_limits ws (judge_positions net (bindings ws)))
