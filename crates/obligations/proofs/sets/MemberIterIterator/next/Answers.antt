-- A turn of the walk over a set's members gives the lowest, and leaves the set without it. Assumes nothing.
use Rattle.std.proofs.Common.{length, ap, arith, ◌∙◌}
use Rattle.obligations.specs.Sets.{members}
use Rattle.obligations.proofs.MemberLaws.{members_walk, members_none}
use Rattle.obligations.proofs.sets.MemberIterIterator.next.Goals as goal

pub returns-then-self-eq0-clause-steps : goal.returns-then-self-eq0-clause-steps
returns-then-self-eq0-clause-steps c =
    let e = ap members c.if-self-eq0.true ∙ members_none in (e, e)

pub returns-clause-steps : goal.returns-clause-steps
returns-clause-steps c = members_walk c.args.self.now.rest (omega arith) (omega arith)

pub returns-clause-goes : goal.returns-clause-goes
returns-clause-goes c =
    let e = members_walk c.args.self.now.rest (omega arith) (omega arith) in
    record { on = λ _. (tt, tt, omega (arith, ap length e)); keeps = tt; rests = λ _. tt }
