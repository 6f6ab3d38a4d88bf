-- `split_line` meets its contract. The loop's invariant: the line goes on for as many bytes as are passed and the line that is
-- left. Assumes nothing.
use Rattle.std.proofs.Common.{arith}
use Rattle.std.proofs.Math.Seq.{take-length}
use Rattle.text.proofs.LineLaws.{line_whole}
use Rattle.text.proofs.lines.split_line.Goals as goal

pub returns-clause-line : goal.returns-clause-line
returns-clause-line c =
    rw (line_whole c.args.s.now c.loop-i.i (omega arith) (omega arith) c.loop-i.invariant, take-length c.args.s.now)
