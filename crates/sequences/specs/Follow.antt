-- Follow (01, "Follow"; 000, Definition 6): refusals 2, 3, 4, 7, 12 and 21 (02, (viii)) in this order.
use Rattle.std.specs.Prelude.{ℕ, ◌≡◌, cond, List, [], ◌∷◌, Result, length}
use Rattle.obligations.specs.Sets.{single}
use Rattle.obligations.specs.declared.sequence.Binding.{Binding}
use Rattle.net.specs.Refusals.{Says, disorderly, wrong_ends}
use Rattle.net.specs.Sentences.{Sentence}
use Rattle.net.specs.Chains.{unless}
use Rattle.net.specs.Orderly.{orderly}
use Rattle.net.specs.Common.{not_orderly, not_activities, not_shaped}
use Rattle.net.specs.Traces.{activity_in, trace_shaped}
use Rattle.net.specs.declared.Net.{Net}
use Rattle.sequences.specs.Limits.{long_trace, trace_within_limits}
use Rattle.sequences.specs.Gain.{not_fitting, not_countable, gained}
use Rattle.sequences.specs.Learn.{learn_means, gain_says}
use Rattle.net.specs.declared.refusal.Refused.{Refused}
use Rattle.net.specs.declared.Returned.{Returned}

-- the sequence of a trace: X is the activity before, empty at the first, and Y the activity after, empty at the last;
-- x stands for the activity before the trace's first
unfoldable pub followed_from : ℕ → List ℕ → List Binding
followed_from x [] = []
followed_from x (a ∷ []) = record { activity = a; input = x; output = 0 } ∷ []
followed_from x (a ∷ b ∷ trace) = record { activity = a; input = x; output = single b } ∷ followed_from (single a) (b ∷ trace)

abbrev pub followed : List ℕ → List Binding
followed trace = followed_from 0 trace

-- the refusals: 9, 10 and 11 aren't given by follow, as they can't hold of the sequence that it makes
abbrev pub follow_refusals : Net → List ℕ → List Sentence
follow_refusals net trace =
    not_orderly net
    ∷ long_trace trace
    ∷ not_activities (length trace) (activity_in trace)
    ∷ not_shaped net (length trace) (activity_in trace)
    ∷ not_fitting net (followed trace)
    ∷ not_countable net (followed trace)
    ∷ []

-- refusals 7, 12 and 21, of a trace within the limits
unfoldable pub follow_positions : Net → List ℕ → Says
follow_positions net trace =
    unless (trace_shaped net.start net.end trace) wrong_ends
    (gain_says net (followed trace))

-- refusals 2, 3 and 4, then those
unfoldable pub follow_says : Net → List ℕ → Says
follow_says net trace = unless (orderly net) disorderly (trace_within_limits trace (follow_positions net trace))

unfoldable pub follow_gives : Net → List ℕ → Net
follow_gives net trace = cond (follow_says net trace).ok (gained net (followed trace)) net

-- what follow answers and leaves of the net
pub record FollowLeft (net : Net) (trace : List ℕ) (answer : Result ℕ Refused) (net' : Net) : Type 0 where
  pub says : learn_means answer ≡ follow_says net trace
  pub gives : net' ≡ follow_gives net trace

abbrev pub FollowDone : Net → List ℕ → Returned ℕ → Type 0
FollowDone net trace r = FollowLeft net trace r.answer r.net
