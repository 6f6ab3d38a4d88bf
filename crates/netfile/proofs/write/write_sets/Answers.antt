-- `write_sets` meets its contract. The loop's invariant: the rows of the sets left, once taken, are all rows. Assumes nothing.
use Rattle.std.proofs.Common.{refl, drop, get_or, ◌+◌}
use borrow.Author.Rules.{rules}
use Rattle.text.specs.Lines.{unlines}
use Rattle.netfile.specs.NetFile.{set_lines, sets_lines}
use Rattle.text.proofs.SinkLaws.{left_start, left_room, left_more, left_end}
use Rattle.netfile.proofs.TextLaws.{sets-step, sets_none}
use Rattle.netfile.proofs.write.write_sets.Goals as goal

pub loop-m-init : goal.loop-m-init
loop-m-init g c =
    let a = c.args in
    left_start g.met.S.Sink.laws a.out.now (unlines (sets_lines a.side a.a a.sets.now)) (unlines (sets_lines a.side a.a a.sets.now)) c.requires refl

pub write_set-requires : goal.write_set-requires
write_set-requires g c =
    let a = c.args in
    let i = c.loop-m.m-index in
    left_room g.met.S.Sink.laws c.loop-m.invariant (unlines (set_lines a.side a.a (get_or a.sets.now i 0))) (unlines (sets_lines a.side a.a (drop (i + 1) a.sets.now))) refl (sets-step a.side a.a i a.sets.now (search rules))

pub loop-m-preserved : goal.loop-m-preserved
loop-m-preserved g c =
    let a = c.args in
    let i = c.loop-m.m-index in
    left_more g.met.S.Sink.laws c.loop-m.invariant (unlines (set_lines a.side a.a (get_or a.sets.now i 0))) (unlines (sets_lines a.side a.a (drop (i + 1) a.sets.now))) refl (sets-step a.side a.a i a.sets.now (search rules)) c.write_set.ensures

pub returns : goal.returns
returns g c =
    let a = c.args in
    left_end g.met.S.Sink.laws c.loop-m.invariant (sets_none a.side a.a c.loop-m.m-index a.sets.now (search rules))
