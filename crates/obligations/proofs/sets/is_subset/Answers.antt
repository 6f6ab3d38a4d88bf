-- `is_subset` meets its contract: nothing of the set is left without the other. Assumes nothing.
use Rattle.std.proofs.Common.{ℕ, ap, eqb}
use Rattle.obligations.specs.Sets.{subset}
use Rattle.obligations.proofs.sets.is_subset.Goals as goal

pub returns : goal.returns
unfolding subset
returns c = ap (λ (n : ℕ). eqb n 0) c.minus.ensures
