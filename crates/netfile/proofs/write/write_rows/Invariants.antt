use Rattle.std.proofs.Common.{◌-◌}
use Rattle.obligations.specs.Limits.{activities}
use Rattle.text.specs.Lines.{unlines}
use Rattle.netfile.specs.NetFile.{activity_lines}
use Rattle.text.proofs.SinkLaws.{Left}
use Rattle.netfile.proofs.write.write_rows.Given as goal

abbrev pub invariant-loop-a : goal.invariant-loop-a
invariant-loop-a g l = Left g.S.Sink.room g.S.Sink.takes l.initial.out (unlines (activity_lines l.net activities 0)) l.out (unlines (activity_lines l.net (activities - l.a) l.a))
