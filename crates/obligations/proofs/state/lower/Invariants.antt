use Rattle.std.proofs.Common.{◌≡◌}
use Rattle.obligations.specs.State.{places_left, lowered}
use Rattle.obligations.proofs.PlaceLaws.{Covers}
use Rattle.obligations.proofs.state.lower.Given as goal

abbrev pub invariant-loop-i : goal.invariant-loop-i
invariant-loop-i l =
    (goal.iterator-loop-i).can_next l.i-iterator × (goal.iterator-loop-i).is_finite l.i-iterator
    × (lowered l.initial.counts (places_left l.fn.places) ≡ lowered l.counts (places_left l.i-iterator)) × Covers l.counts (places_left l.i-iterator)
