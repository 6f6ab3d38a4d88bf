use Rattle.std.proofs.Common.{◌≡◌, true, ◌+◌, ◌≤◌, length}
use Rattle.std.specs.Iterator.Adapters.{zip_first, zip_second}
use Rattle.text.specs.Lines.{lines}
use Rattle.text.specs.Reading.{lines_left}
use Rattle.net.specs.Sides.{uncounted}
use Rattle.net.specs.Orderly.{orderly}
use Rattle.netfile.specs.NetFile.{read_rows}
use Rattle.netfile.proofs.read.put_rows.Given as goal

abbrev pub invariant-loop-number : goal.invariant-loop-number
invariant-loop-number l =
    let n = (zip_first l.number-iterator).start in
    let left = lines_left (zip_second l.number-iterator) in
    (orderly l.net ≡ true) × (uncounted l.net ≡ l.net) × (n + length left ≤ 4 + length l.rows) × (read_rows n l.net left ≡ read_rows 4 l.initial.net (lines l.rows))
