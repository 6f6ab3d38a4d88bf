-- Refusals 3 and 4 of sequences and traces.
use Rattle.std.specs.Prelude.{ℕ, ◌*◌, ◌%◌, ◌<◌, ◌≡◌, Bool, ◌&&◌, List, ◌⊎◌, eqb, leb, length}
use Rattle.obligations.specs.Limits.{positions}
use Rattle.obligations.specs.Trace.{first_no_activity}
use Rattle.obligations.specs.Sequence.{bindings, at}
use Rattle.obligations.specs.declared.sequence.Binding.{Binding}
use Rattle.net.specs.Refusals.{Says, outside_limits, no_activity}
use Rattle.net.specs.Sentences.{Sentence, whole}
use Rattle.net.specs.Chains.{unless, none_at}
use Rattle.net.specs.Traces.{trace_within, no_activity_in}

-- the activity of the position with i others before it
abbrev pub activity_of : List Binding → ℕ → ℕ
activity_of s i = (at s i).activity

-- 3: a sequence's words aren't a multiple of three, or it exceeds the limit of positions
abbrev pub not_sequence : List ℕ → Sentence
not_sequence ws = whole outside_limits ((length ws % 3 ≡ 0 → ⊥) ⊎ (positions < length (bindings ws)))

-- 3: a trace exceeds the limit of positions
abbrev pub long_trace : List ℕ → Sentence
long_trace trace = whole outside_limits (positions < length trace)

-- words are a multiple of three, and their positions are within the limit
unfoldable pub words_within : List ℕ → Bool
words_within ws = eqb (length ws % 3) 0 && leb (length ws) (3 * positions)

-- the rest of a chain for words that are a sequence within the limits: else refusal 3, or 4 at the first number above 31
unfoldable pub within_limits : List ℕ → Says → Says
within_limits ws rest =
    let s = bindings ws in
    unless (words_within ws) outside_limits
    (none_at (first_no_activity (length s) (activity_of s)) no_activity rest)

-- the same for a trace
unfoldable pub trace_within_limits : List ℕ → Says → Says
trace_within_limits trace rest =
    unless (trace_within trace) outside_limits
    (none_at (no_activity_in trace) no_activity rest)
