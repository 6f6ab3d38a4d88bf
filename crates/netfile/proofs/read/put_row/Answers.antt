-- `put_row` meets its contract: what is done to one kind of side is what put does to the net. Assumes nothing.
use Rattle.std.proofs.lemmas.Result.{err_from_is_err_and}
use Rattle.net.proofs.OrderlyLaws.{orderly_sides}
use Rattle.netfile.proofs.PutRowLaws.{row_put, row_refused}
use Rattle.netfile.proofs.read.put_row.Goals as goal

pub put_side-requires-clause-orderly : goal.put_side-requires-clause-orderly
put_side-requires-clause-orderly c = rw (c.sides_mut.ensures.value, c.empty_at-empty.ensures) (orderly_sides c.args.net.now c.requires.orderly c.args.row.side)

pub returns-in_err-put_side : goal.returns-in_err-put_side
returns-in_err-put_side c =
    let s = c.put_side in
    let p = err_from_is_err_and c.from_residual.result c.from_residual.ensures.1 in
    rw (p.1, p.2)
    (row_refused c.args.net.now c.args.row c.requires.orderly c.requires.uncounted c.requires.activity s.result s.new.sides (rw (c.sides_mut.ensures.value, c.empty_at-empty.ensures) at s.ensures) c.in_err-put_side.field-0.0 c.in_err-put_side.was)

pub returns : goal.returns
returns c =
    let s = c.put_side in
    row_put c.args.net.now c.args.row c.requires.orderly c.requires.uncounted c.requires.activity s.result s.new.sides (rw (c.sides_mut.ensures.value, c.empty_at-empty.ensures) at s.ensures) c.in_ok-put_side.field-0 c.in_ok-put_side.was
