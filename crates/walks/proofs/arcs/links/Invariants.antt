use Rattle.std.proofs.Common.{ℕ, ◌≡◌, ◌<◌, length, get_or}
use Rattle.walks.specs.Links.{linked}
use Rattle.walks.proofs.arcs.links.Given as goal

abbrev pub invariant-loop-a : goal.invariant-loop-a
invariant-loop-a l = (length l.rows ≡ 32) × ((k : ℕ) → k < l.a → get_or l.rows k 0 ≡ linked (get_or l.own k 0) l.other k)
