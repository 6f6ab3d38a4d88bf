-- `reach` meets its contract. The loop's invariant: all seen are led to by steps, and all one step on from what is done are
-- seen; each turn does one more. Assumes nothing.
use Rattle.std.proofs.Common.{arith}
use Rattle.obligations.proofs.SetLaws.{with_gt}
use Rattle.walks.proofs.ReachLaws.{Small, search_first, search_lowest, search_next, search_end}
use Rattle.walks.proofs.reach.reach.Goals as goal

pub loop-done-init : goal.loop-done-init
loop-done-init c = rw c.single-seen.ensures (search_first c.args.next.now c.args.from c.requires.is_activity)

pub bounds-next-a : goal.bounds-next-a
bounds-next-a c =
    let l = c.loop-done in
    (search_lowest c.args.next.now c.args.from l.seen l.done l.invariant _ c.minus-a.ensures c.loop-done-test.true).0

pub loop-done-smaller : goal.loop-done-smaller
loop-done-smaller c =
    let l = c.loop-done in
    let w = search_lowest c.args.next.now c.args.from l.seen l.done l.invariant _ c.minus-a.ensures c.loop-done-test.true in
    let g = with_gt l.done _ w.0 w.2 in
    rw c.with-done.ensures (omega (arith, l.invariant.done_small))

pub loop-done-preserved : goal.loop-done-preserved
loop-done-preserved c =
    let l = c.loop-done in
    let w = search_lowest c.args.next.now c.args.from l.seen l.done l.invariant _ c.minus-a.ensures c.loop-done-test.true in
    rw (c.with-done.ensures, c.union-seen.ensures) (search_next c.args.next.now c.args.from l.seen l.done l.invariant _ w.0 (c.fits-next _) w.1)

pub returns : goal.returns
unfolding Small
returns c =
    let l = c.loop-done in
    search_end c.args.next.now c.args.from l.seen l.done l.invariant c.requires.is_activity c.fits-next c.loop-done-test.false
