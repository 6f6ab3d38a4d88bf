-- `write_rows` meets its contract. The loop's invariant: the rows of the activities left, once taken, are all rows. Assumes nothing.
use Rattle.std.proofs.Common.{refl, ap, ◌+◌, ◌-◌, ◌++◌}
use borrow.Author.Rules.{rules}
use Rattle.obligations.specs.Limits.{activities}
use Rattle.text.specs.Lines.{unlines}
use Rattle.net.specs.declared.sides.Side.TheVariants.{Input, Output}
use Rattle.net.proofs.OrderlyLaws.{orderly_at_most}
use Rattle.netfile.specs.NetFile.{sets_lines, side_lines, activity_lines}
use Rattle.text.proofs.SinkLaws.{left_start, left_room, left_more, left_end}
use Rattle.netfile.proofs.TextLaws.{activities-step, activities_none}
use Rattle.netfile.proofs.write.write_rows.Goals as goal

pub loop-a-init : goal.loop-a-init
loop-a-init g c =
    let net = c.args.net.now in
    left_start g.met.S.Sink.laws c.args.out.now (unlines (activity_lines net activities 0)) (unlines (activity_lines net activities 0)) c.requires.room refl

pub sets-requires-clause-at_most : goal.sets-requires-clause-at_most
sets-requires-clause-at_most g c = orderly_at_most c.args.net.now c.requires.orderly Input c.loop-a.a (search rules)

pub write_sets-requires : goal.write_sets-requires
write_sets-requires g c =
    let net = c.args.net.now in
    let b = c.loop-a.a in
    left_room g.met.S.Sink.laws c.loop-a.invariant (unlines (side_lines net Input b)) (unlines (side_lines net Output b) ++ unlines (activity_lines net (activities - (b + 1)) (b + 1)))
    (ap (λ ms. unlines (sets_lines Input b ms)) c.sets.ensures) (activities-step net b (search rules))

pub sets-requires-in-loop-a-clause-at_most : goal.sets-requires-in-loop-a-clause-at_most
sets-requires-in-loop-a-clause-at_most g c = orderly_at_most c.args.net.now c.requires.orderly Output c.loop-a.a (search rules)

pub write_sets-requires-in-loop-a : goal.write_sets-requires-in-loop-a
write_sets-requires-in-loop-a g c =
    let net = c.args.net.now in
    let b = c.loop-a.a in
    let k = g.met.S.Sink.laws in
    let l = left_more k c.loop-a.invariant (unlines (side_lines net Input b)) (unlines (side_lines net Output b) ++ unlines (activity_lines net (activities - (b + 1)) (b + 1)))
    (ap (λ ms. unlines (sets_lines Input b ms)) c.sets.ensures) (activities-step net b (search rules)) c.write_sets.ensures in
    left_room k l (unlines (side_lines net Output b)) (unlines (activity_lines net (activities - (b + 1)) (b + 1))) (ap (λ ms. unlines (sets_lines Output b ms)) c.sets-in-loop-a.ensures) refl

pub loop-a-preserved : goal.loop-a-preserved
loop-a-preserved g c =
    let net = c.args.net.now in
    let b = c.loop-a.a in
    let k = g.met.S.Sink.laws in
    let l = left_more k c.loop-a.invariant (unlines (side_lines net Input b)) (unlines (side_lines net Output b) ++ unlines (activity_lines net (activities - (b + 1)) (b + 1)))
    (ap (λ ms. unlines (sets_lines Input b ms)) c.sets.ensures) (activities-step net b (search rules)) c.write_sets.ensures in
    left_more k l (unlines (side_lines net Output b)) (unlines (activity_lines net (activities - (b + 1)) (b + 1))) (ap (λ ms. unlines (sets_lines Output b ms)) c.sets-in-loop-a.ensures) refl c.write_sets-in-loop-a.ensures

pub returns : goal.returns
returns g c = left_end g.met.S.Sink.laws c.loop-a.invariant (activities_none c.args.net.now c.loop-a.a (search rules))
