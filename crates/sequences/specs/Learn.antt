-- Learn (01, "Learning and containment"): refusals 2, 3, 4, 7, 9, 10, 11, 12 and 21 (02, (viii)) in this order.
use Rattle.std.specs.Prelude.{ℕ, ◌+◌, ◌-◌, ◌≡◌, Bool, cond, ◌&&◌, List, [], ◌∷◌, ◌↔◌, Result, eqb, length}
use Rattle.std.specs.Bool.{beq}
use Rattle.obligations.specs.Tests.{first_failing}
use Rattle.obligations.specs.Trace.{shaped}
use Rattle.obligations.specs.State.{all_zero}
use Rattle.obligations.specs.Sequence.{bindings, at, ψ, first_impossible}
use Rattle.obligations.specs.declared.sequence.Binding.{Binding}
use Rattle.net.specs.Refusals.{Says, means, accepted, disorderly, wrong_ends, wrongly_empty, not_possible, left_over, full_side, count_too_high}
use Rattle.net.specs.Sentences.{Sentence, first}
use Rattle.net.specs.Chains.{unless, none_at}
use Rattle.net.specs.Sides.{net_size}
use Rattle.net.specs.Orderly.{orderly}
use Rattle.net.specs.Common.{not_orderly, not_activities, not_shaped}
use Rattle.net.specs.declared.Net.{Net}
use Rattle.sequences.specs.Limits.{activity_of, not_sequence, within_limits}
use Rattle.sequences.specs.Run.{not_all_possible, obligations_left}
use Rattle.sequences.specs.Gain.{not_fitting, not_countable, gained, fits, countable}
use Rattle.net.specs.declared.refusal.Refused.{Refused}
use Rattle.net.specs.declared.Returned.{Returned}

-- what each answer of learn and follow means: an accepted one's value is the number of new sets
abbrev pub learn_means : Result ℕ Refused → Says
learn_means answer = means (λ new. new) answer

-- ---- the refusals

-- 9: X or Y is empty or filled where it may not be; i is the number of positions before the one spoken of
abbrev pub WronglyEmpty : List Binding → ℕ → Type 0
WronglyEmpty s i = (((at s i).input ≡ 0) ↔ (i ≡ 0)) × (((at s i).output ≡ 0) ↔ (i + 1 ≡ length s)) → ⊥

abbrev pub learn_refusals : Net → List ℕ → List Sentence
learn_refusals net ws =
    let s = bindings ws in
    not_orderly net
    ∷ not_sequence ws
    ∷ not_activities (length s) (activity_of s)
    ∷ not_shaped net (length s) (activity_of s)
    ∷ first wrongly_empty (length s) (WronglyEmpty s)
    ∷ not_all_possible s
    ∷ obligations_left s
    ∷ not_fitting net s
    ∷ not_countable net s
    ∷ []

-- ---- what is said

-- X is empty at the first position only and Y at the last only: the first position where that fails, or 0
unfoldable pub empty_agree : List Binding → ℕ → Bool
empty_agree s i = beq (eqb (at s i).input 0) (eqb i 0) && beq (eqb (at s i).output 0) (eqb (i + 1) (length s))

unfoldable pub first_wrongly_empty : List Binding → ℕ
first_wrongly_empty s = first_failing (length s) (empty_agree s)

-- how many sets a net gains by a sequence: the growth of its own lists
abbrev pub new_sets : Net → List Binding → ℕ
new_sets net s = net_size (gained net s) - net_size net

-- refusals 12 and 21, and the number of new sets, for follow too
abbrev pub gain_says : Net → List Binding → Says
gain_says net s =
    unless (fits net s) full_side
    (unless (countable net s) count_too_high
    (accepted (new_sets net s)))

-- refusals 7, 9, 10, 11, 12 and 21, of a sequence within the limits
unfoldable pub learn_positions : Net → List Binding → Says
learn_positions net s =
    unless (shaped net.start net.end (length s) (activity_of s)) wrong_ends
    (none_at (first_wrongly_empty s) wrongly_empty
    (none_at (first_impossible s) not_possible
    (unless (all_zero (ψ s)) left_over
    (gain_says net s))))

-- refusals 2, 3 and 4, then those
unfoldable pub learn_says : Net → List ℕ → Says
learn_says net ws = unless (orderly net) disorderly (within_limits ws (learn_positions net (bindings ws)))

-- the net that learn returns: with the sequence's sets and uses if it was accepted, else the very net given
unfoldable pub learn_gives : Net → List ℕ → Net
learn_gives net ws = cond (learn_says net ws).ok (gained net (bindings ws)) net

-- what learn answers and leaves of the net
pub record LearnLeft (net : Net) (ws : List ℕ) (answer : Result ℕ Refused) (net' : Net) : Type 0 where
  pub says : learn_means answer ≡ learn_says net ws
  pub gives : net' ≡ learn_gives net ws

abbrev pub LearnDone : Net → List ℕ → Returned ℕ → Type 0
LearnDone net ws r = LearnLeft net ws r.answer r.net
