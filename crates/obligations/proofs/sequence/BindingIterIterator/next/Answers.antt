-- A turn of the walk over the bindings that words hold gives the first, and leaves the words behind it. Assumes nothing.
use Rattle.std.proofs.Common.{length, ap, arith}
use Rattle.obligations.proofs.SequenceLaws.{bindings_short, bindings_next}
use Rattle.obligations.proofs.sequence.BindingIterIterator.next.Goals as goal

pub returns-in_default-clause-steps : goal.returns-in_default-clause-steps
returns-in_default-clause-steps c = let e = bindings_short c.args.self.now.rest.now (omega arith) in (e, e)

pub returns-clause-steps : goal.returns-clause-steps
returns-clause-steps c = bindings_next c.args.self.now.rest.now (omega arith)

pub returns-clause-goes : goal.returns-clause-goes
returns-clause-goes c =
    let e = bindings_next c.args.self.now.rest.now (omega arith) in
    record { on = λ _. (tt, tt, omega (arith, ap length e)); keeps = tt; rests = λ _. tt }
