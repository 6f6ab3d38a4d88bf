-- A trace's limits and shape (01, refusals 3, 4 and 7), for the calls that are given one.
use Rattle.std.specs.Prelude.{ℕ, Bool, List, leb, length, get_or}
use Rattle.obligations.specs.Limits.{positions}
use Rattle.obligations.specs.Trace.{first_no_activity, shaped, Shaped}

-- the activity of the position with i others before it
abbrev pub activity_in : List ℕ → ℕ → ℕ
activity_in trace i = get_or trace i 0

-- 3: a trace is within the limit of positions
abbrev pub trace_within : List ℕ → Bool
trace_within trace = leb (length trace) positions

-- 4: the first position with a number above 31, or 0
abbrev pub no_activity_in : List ℕ → ℕ
no_activity_in trace = first_no_activity (length trace) (activity_in trace)

-- 7: at least two positions, start and end first, last and nowhere else: as a test, and as facts
abbrev pub trace_shaped : ℕ → ℕ → List ℕ → Bool
trace_shaped start end trace = shaped start end (length trace) (activity_in trace)

abbrev pub TraceShaped : ℕ → ℕ → List ℕ → Type 0
TraceShaped start end trace = Shaped start end (length trace) (activity_in trace)
