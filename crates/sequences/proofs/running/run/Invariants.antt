use Rattle.std.specs.Prelude.{length}
use Rattle.obligations.specs.Sequence.{bindings}
use Rattle.sequences.proofs.NumberLaws.{Numbered}
use Rattle.sequences.proofs.RunLaws.{Running}
use Rattle.sequences.proofs.running.run.Given as goal

abbrev pub invariant-loop-position : goal.invariant-loop-position
invariant-loop-position l =
    (goal.iterator-loop-position).can_next l.position-iterator × (goal.iterator-loop-position).is_finite l.position-iterator
    × Numbered (length (bindings l.words)) (λ i. Running (bindings l.words) i (bindings l.position-iterator.b.rest.now) l.due l.total l.peak) l.position-iterator.a.start
