-- `fill` meets its contract: the elements below k are filled.
use Rattle.std.proofs.Common.{ℕ, ◌≡◌, ◌<◌, get_or}
use Rattle.machine.proofs.buffers.fill.Given as goal

abbrev pub invariant-loop-k : goal.invariant-loop-k
invariant-loop-k g l = (i : ℕ) → i < l.k → get_or l.lent i (g.T.Pattern.untouched i) ≡ g.T.Pattern.untouched i
