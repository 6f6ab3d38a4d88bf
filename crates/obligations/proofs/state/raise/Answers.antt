-- `raise` meets its contract. The walk's invariant: raising the places left gives what is to be given, and their counts have
-- room for it. Assumes nothing.
use Rattle.std.proofs.Common.{arith, ◌≡◌, refl, rules, sym, ap, subst, ◌∙◌}
use Rattle.obligations.specs.State.{raised}
use Rattle.obligations.proofs.PlaceLaws.{Room, state_room, room_head, room_next, first_inside}
use Rattle.obligations.proofs.state.raise.Goals as goal

pub loop-i-init : goal.loop-i-init
loop-i-init c =
    let a = c.args in
    let e : c.into_iter-i-iterator.result ≡ a.places = search rules in
    rw e (tt, tt, refl, state_room a.places.base a.places.stride a.places.apart a.counts.now a.places.members.rest c.requires)

pub bounds-counts-i : goal.bounds-counts-i
bounds-counts-i c = first_inside _ _ _ _ _ c.loop-i.i-iterator.inside c.in-Some.ensures.steps

pub overflow_add-counts : goal.overflow_add-counts
overflow_add-counts c =
    let h = room_head c.loop-i.counts _ _ (subst (Room c.loop-i.counts) c.in-Some.ensures.steps c.loop-i.invariant.3) in
    omega arith

pub bounds-counts-i-in-loop-i : goal.bounds-counts-i-in-loop-i
bounds-counts-i-in-loop-i c = first_inside _ _ _ _ _ c.loop-i.i-iterator.inside c.in-Some.ensures.steps

pub loop-i-preserved : goal.loop-i-preserved
unfolding raised
loop-i-preserved c =
    let l = c.loop-i in
    let w = c.in-Some.ensures.steps in
    (tt, tt, l.invariant.2 ∙ ap (raised l.counts) w, room_next l.counts _ _ (subst (Room l.counts) w l.invariant.3))

pub returns : goal.returns
unfolding raised
returns c = sym (c.loop-i.invariant.2 ∙ ap (raised c.loop-i.counts) c.in-None.ensures.steps.0)
