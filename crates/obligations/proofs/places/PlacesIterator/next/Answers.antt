-- A turn of the walk over places gives that of the next member, and leaves those of the members behind it. Assumes nothing.
use Rattle.std.proofs.Common.{rules, ap, arith, length}
use Rattle.obligations.proofs.PlaceLaws.{member_first, places_next, places_end, place_fits}
use Rattle.obligations.proofs.places.PlacesIterator.next.Goals as goal

pub returns-in_err-k-clause-steps : goal.returns-in_err-k-clause-steps
returns-in_err-k-clause-steps c =
    let e = places_end c.args.self.now.base c.args.self.now.stride c.args.self.now.members.rest c.in_err-k.ensures.steps.0 in
    let f = places_end c.args.self.now.base c.args.self.now.stride c.next.new.self.rest c.in_err-k.ensures.steps.1 in
    search rules

pub overflow_mul-result : goal.overflow_mul-result
overflow_mul-result c =
    let l = place_fits c.args.self.now.base c.args.self.now.stride c.in_ok-k.k c.args.self.now.inside (member_first _ _ _ c.in_ok-k.ensures.steps) in
    omega arith

pub overflow_add-result : goal.overflow_add-result
overflow_add-result c =
    let l = place_fits c.args.self.now.base c.args.self.now.stride c.in_ok-k.k c.args.self.now.inside (member_first _ _ _ c.in_ok-k.ensures.steps) in
    omega arith

pub returns-clause-steps : goal.returns-clause-steps
returns-clause-steps c = places_next _ _ _ _ _ c.in_ok-k.ensures.steps

pub returns-clause-goes : goal.returns-clause-goes
returns-clause-goes c =
    let e = places_next c.args.self.now.base c.args.self.now.stride _ _ _ c.in_ok-k.ensures.steps in
    record { on = λ _. (tt, tt, omega (arith, ap length e)); keeps = tt; rests = λ _. tt }
