-- `write_net` meets its contract: the tests in the order of their numbers, then the text. Assumes nothing.
use Rattle.std.proofs.Common.{sym, arith}
use Rattle.netfile.proofs.TextLaws.{net_short}
use Rattle.netfile.proofs.NetTextLaws.{written_disorderly, written_short, written_whole}
use Rattle.netfile.proofs.write.write_net.Goals as goal

pub returns-then-not-is_orderly : goal.returns-then-not-is_orderly
returns-then-not-is_orderly c =
    let s = c.args in
    rw c.at.ensures (written_disorderly s.net s.out.now (sym c.if-not-is_orderly.ensures))

pub write_text-requires-clause-room : goal.write_text-requires-clause-room
write_text-requires-clause-room c = omega (arith, net_short c.args.net (sym c.if-not-is_orderly.ensures))

pub returns-then-out-width : goal.returns-then-out-width
returns-then-out-width c =
    let s = c.args in
    rw c.at-then-out-width.ensures (written_short s.net s.out.now (sym c.if-not-is_orderly.ensures) (omega (arith, c.write_text.ensures)))

pub fill-requires-clause-room : goal.fill-requires-clause-room
fill-requires-clause-room c = omega (arith, c.write_text.ensures)

pub overflow_cast-result : goal.overflow_cast-result
overflow_cast-result c = omega (arith, c.fill.ensures.next, net_short c.args.net (sym c.if-not-is_orderly.ensures))

pub returns : goal.returns
returns c =
    let s = c.args in
    written_whole s.net s.out.now (sym c.if-not-is_orderly.ensures) (omega (arith, c.write_text.ensures)) c.fill.result c.fill.new.out (omega (arith, c.fill.ensures.next)) c.fill.ensures.bytes
