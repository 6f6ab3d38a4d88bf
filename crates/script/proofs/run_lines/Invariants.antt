-- `run_lines` ends: each line is passed.
use Rattle.std.proofs.Common.{length}
use Rattle.script.proofs.run_lines.Given as goal

abbrev pub decreases-loop-line : goal.decreases-loop-line
decreases-loop-line g l = length l.script.rest.now
