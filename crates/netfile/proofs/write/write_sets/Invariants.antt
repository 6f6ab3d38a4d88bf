use Rattle.std.proofs.Common.{drop}
use Rattle.text.specs.Lines.{unlines}
use Rattle.netfile.specs.NetFile.{sets_lines}
use Rattle.text.proofs.SinkLaws.{Left}
use Rattle.netfile.proofs.write.write_sets.Given as goal

abbrev pub invariant-loop-m : goal.invariant-loop-m
invariant-loop-m g l = Left g.S.Sink.room g.S.Sink.takes l.initial.out (unlines (sets_lines l.side l.a l.sets)) l.out (unlines (sets_lines l.side l.a (drop l.m-index l.sets)))
