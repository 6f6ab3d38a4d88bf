-- `is_untouched` meets its contract: the elements from `from` on and below k are untouched. Assumes nothing.
use Rattle.std.proofs.Common.{ℕ, ◌≡◌, ◌<◌, ◌≤◌, true, get_or}
use Rattle.machine.proofs.buffers.is_untouched.Given as goal

abbrev pub invariant-loop-k : goal.invariant-loop-k
invariant-loop-k g l = (i : ℕ) → l.from ≤ i → i < l.k → g.T.PartialEq.eq (get_or l.lent i (g.T.Pattern.untouched i)) (g.T.Pattern.untouched i) ≡ true
