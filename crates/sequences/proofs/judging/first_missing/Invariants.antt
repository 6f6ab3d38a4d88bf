use Rattle.std.proofs.Common.{◌≡◌, None, drop, length}
use Rattle.obligations.specs.Sequence.{bindings}
use Rattle.net.specs.Lists.{listed}
use Rattle.sequences.proofs.NumberLaws.{Numbered}
use Rattle.sequences.proofs.MissingLaws.{Passed}
use Rattle.sequences.proofs.judging.first_missing.Given as goal

abbrev pub invariant-loop-x : goal.invariant-loop-x
invariant-loop-x l = listed l.binding.input l.x-items ≡ listed l.binding.input (drop l.x-index l.x-items)

abbrev pub invariant-loop-y : goal.invariant-loop-y
invariant-loop-y l = listed l.binding.output l.y-items ≡ listed l.binding.output (drop l.y-index l.y-items)

abbrev pub invariant-positions : goal.invariant-positions
invariant-positions l =
    (goal.iterator-positions).can_next l.position-iterator × (goal.iterator-positions).is_finite l.position-iterator
    × (l.missing ≡ None)
    × Numbered (length (bindings l.words)) (λ i. Passed l.net (bindings l.words) i (bindings l.position-iterator.b.rest.now)) l.position-iterator.a.start
