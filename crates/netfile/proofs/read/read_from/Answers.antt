-- `read_from` meets its contract: the fresh net of ends that fresh accepts, and then what `put_rows` leaves of it. Assumes nothing.
use Rattle.std.proofs.Common.{ℕ, List, ◌≡◌, true, ap, ◌∙◌}
use Rattle.text.specs.Lines.{lines}
use Rattle.net.specs.Orderly.{ends_ok}
use Rattle.net.specs.Fresh.{fresh_net, fresh_gives}
use Rattle.net.specs.declared.Net.{Net}
use Rattle.net.proofs.FreshLaws.{fresh_gives-orderly, fresh_gives-uncounted, fresh_given, fresh_accepted}
use Rattle.netfile.specs.NetFile.{FileReading, read_rows}
use Rattle.netfile.proofs.read.read_from.Goals as goal

-- what the rows say from the net that fresh made
from_fresh : (start end : ℕ) (rows : List ℕ) {net : Net} → ends_ok start end ≡ true → net ≡ fresh_gives start end → read_rows 4 net (lines rows) ≡ read_rows 4 (fresh_net start end) (lines rows)
from_fresh start end rows o e = ap (λ (n : Net). read_rows 4 n (lines rows)) (e ∙ fresh_given start end o)

pub put_rows-requires-clause-orderly : goal.put_rows-requires-clause-orderly
put_rows-requires-clause-orderly c = rw c.fresh-read.ensures.gives (fresh_gives-orderly _ _)

pub put_rows-requires-clause-uncounted : goal.put_rows-requires-clause-uncounted
put_rows-requires-clause-uncounted c = rw c.fresh-read.ensures.gives (fresh_gives-uncounted _ _)

pub returns-in-Err : goal.returns-in-Err
returns-in-Err c =
    let g = c.args in
    let q = (rw c.in-Err.is at c.put_rows.ensures) ∙ from_fresh g.start g.end g.rows.now c.requires.ends c.fresh-read.ensures.gives in
    rw q at c.refused_reading.ensures

pub returns : goal.returns
returns c =
    let g = c.args in
    let q = c.in_default.ensures ∙ from_fresh g.start g.end g.rows.now c.requires.ends c.fresh-read.ensures.gives in
    record { says = c.fresh-read.ensures.says ∙ fresh_accepted g.start g.end c.requires.ends ∙ ap (λ (d : FileReading). d.says) q; gives = ap (λ (d : FileReading). d.net) q }
