use Rattle.text.specs.Fields.{space, split}
use Rattle.text.specs.Reading.{fields_left}
use Rattle.logfile.proofs.EntryLaws.{Filling}
use Rattle.logfile.proofs.line.fill_trace.Given as goal

abbrev pub invariant-loop-k : goal.invariant-loop-k
invariant-loop-k l = Filling l.initial.out (split space l.trace) l.k-iterator.count (fields_left l.k-iterator.iter) l.out
