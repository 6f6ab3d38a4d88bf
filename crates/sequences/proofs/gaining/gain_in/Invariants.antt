use Rattle.obligations.specs.Sequence.{bindings}
use Rattle.sequences.proofs.GainLaws.{Gaining}
use Rattle.sequences.proofs.gaining.gain_in.Given as goal

abbrev pub invariant-loop-binding : goal.invariant-loop-binding
invariant-loop-binding l =
    (goal.iterator-loop-binding).can_next l.binding-iterator × (goal.iterator-loop-binding).is_finite l.binding-iterator
    × Gaining l.fn.net (bindings l.words) l.net (bindings l.binding-iterator.rest.now) l.new l.topped
