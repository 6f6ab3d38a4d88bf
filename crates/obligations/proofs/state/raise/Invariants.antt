use Rattle.std.proofs.Common.{◌≡◌}
use Rattle.obligations.specs.State.{places_left, raised}
use Rattle.obligations.proofs.PlaceLaws.{Room}
use Rattle.obligations.proofs.state.raise.Given as goal

abbrev pub invariant-loop-i : goal.invariant-loop-i
invariant-loop-i l =
    (goal.iterator-loop-i).can_next l.i-iterator × (goal.iterator-loop-i).is_finite l.i-iterator
    × (raised l.initial.counts (places_left l.fn.places) ≡ raised l.counts (places_left l.i-iterator)) × Room l.counts (places_left l.i-iterator)
