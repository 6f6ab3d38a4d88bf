-- `lower` meets its contract. The walk's invariant: lowering the places left gives what is to be given, and their counts
-- allow it. Assumes nothing.
use Rattle.std.proofs.Common.{◌≡◌, refl, rules, sym, ap, subst, ◌∙◌}
use Rattle.obligations.specs.State.{lowered}
use Rattle.obligations.proofs.PlaceLaws.{Covers, due_covers, covers_head, covers-next, first_inside}
use Rattle.obligations.proofs.state.lower.Goals as goal

pub loop-i-init : goal.loop-i-init
loop-i-init c =
    let a = c.args in
    let e : c.into_iter-i-iterator.result ≡ a.places = search rules in
    rw e (tt, tt, refl, due_covers a.places.base a.places.stride a.places.apart a.counts.now a.places.members.rest c.requires)

pub bounds-counts-i : goal.bounds-counts-i
bounds-counts-i c = first_inside _ _ _ _ _ c.loop-i.i-iterator.inside c.in-Some.ensures.steps

pub overflow_sub-counts : goal.overflow_sub-counts
overflow_sub-counts c = covers_head c.loop-i.counts _ _ (subst (Covers c.loop-i.counts) c.in-Some.ensures.steps c.loop-i.invariant.3)

pub bounds-counts-i-in-loop-i : goal.bounds-counts-i-in-loop-i
bounds-counts-i-in-loop-i c = first_inside _ _ _ _ _ c.loop-i.i-iterator.inside c.in-Some.ensures.steps

pub loop-i-preserved : goal.loop-i-preserved
unfolding lowered
loop-i-preserved c =
    let l = c.loop-i in
    let w = c.in-Some.ensures.steps in
    (tt, tt, l.invariant.2 ∙ ap (lowered l.counts) w, covers-next l.counts _ _ (subst (Covers l.counts) w l.invariant.3))

pub returns : goal.returns
unfolding lowered
returns c = sym (c.loop-i.invariant.2 ∙ ap (lowered c.loop-i.counts) c.in-None.ensures.steps.0)
