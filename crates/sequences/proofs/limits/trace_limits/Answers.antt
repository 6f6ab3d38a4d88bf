-- `trace_limits` meets its contract: each answer is a law of the limits. Assumes nothing.
use Rattle.std.proofs.Common.{sym}
use Rattle.sequences.proofs.LimitLaws.{trace_too_long, trace_no_activity, trace_within_said, trace_facts}
use Rattle.sequences.proofs.limits.trace_limits.Goals as goal

pub returns-then-n-gt-POSITIONS-clause-says : goal.returns-then-n-gt-POSITIONS-clause-says
returns-then-n-gt-POSITIONS-clause-says c = rw c.at.ensures (trace_too_long c.args.trace.now c.if-n-gt-POSITIONS.true)

pub returns-in-Some-clause-says : goal.returns-in-Some-clause-says
returns-in-Some-clause-says c = rw c.at-in-Some.ensures (trace_no_activity c.args.trace.now c.if-n-gt-POSITIONS.false c.in-Some.place (sym c.in-Some.ensures))

pub returns-in-None-clause-says : goal.returns-in-None-clause-says
returns-in-None-clause-says c = trace_within_said c.args.trace.now c.if-n-gt-POSITIONS.false (sym c.in-None.ensures)

pub returns-in-None-clause-within : goal.returns-in-None-clause-within
returns-in-None-clause-within c = trace_facts c.args.trace.now c.if-n-gt-POSITIONS.false (sym c.in-None.ensures)
