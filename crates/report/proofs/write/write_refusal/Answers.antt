-- `write_refusal` meets its contract: the pieces are the line. Assumes nothing.
use Rattle.net.specs.Refusals.{refusal_number}
use Rattle.report.proofs.TextLaws.{refusal_bytes}
use Rattle.report.proofs.write.write_refusal.Goals as goal

pub write_front-requires : goal.write_front-requires
write_front-requires c =
    let a = c.args in
    rw (c.from.ensures, c.from-2.ensures, c.number.ensures) (rw (refusal_bytes a.file.now (refusal_number a.refused.refusal) a.refused.place) at c.requires)

pub returns : goal.returns
returns c =
    let a = c.args in
    rw (refusal_bytes a.file.now (refusal_number a.refused.refusal) a.refused.place) (rw (c.from.ensures, c.from-2.ensures, c.number.ensures) at c.write_front.ensures)
