use Rattle.std.proofs.Common.{◌≡◌, length}
use Rattle.std.specs.Iterator.Adapters.{zip_first, zip_second}
use Rattle.text.specs.Reading.{lines_left}
use Rattle.logfile.proofs.FileLaws.{Going}
use Rattle.logfile.proofs.read_row.Given as goal

abbrev pub invariant-loop-number : goal.invariant-loop-number
invariant-loop-number l = Going l.text l.row (length l.initial.out) (lines_left (zip_second l.number-iterator)) (zip_first l.number-iterator).start × (l.out ≡ l.initial.out)
