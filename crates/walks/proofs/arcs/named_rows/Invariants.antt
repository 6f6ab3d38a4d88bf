use Rattle.std.proofs.Common.{ℕ, ◌≡◌, ◌<◌, length, get_or}
use Rattle.net.specs.Sides.{sets_in}
use Rattle.walks.specs.Links.{union_of}
use Rattle.walks.proofs.arcs.named_rows.Given as goal

abbrev pub invariant-loop-a : goal.invariant-loop-a
invariant-loop-a l = (length l.rows ≡ 32) × ((k : ℕ) → k < l.a → get_or l.rows k 0 ≡ union_of (sets_in l.sides k))
