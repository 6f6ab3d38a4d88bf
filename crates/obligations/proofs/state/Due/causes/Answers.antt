-- `causes` meets its contract: the counts of the activity are its row. Assumes nothing.
use Rattle.std.proofs.Common.{List, ℕ, subst, arith}
use Rattle.obligations.specs.State.{Causes}
use Rattle.obligations.proofs.CountLaws.{row_causes}
use Rattle.obligations.proofs.state.Due.causes.Goals as goal

pub returns : goal.returns
returns c =
    subst (λ (d : List ℕ). Causes d c.args.a c.nonzero.result) c.self.view_is (row_causes c.self.inside.counts c.args.a c.nonzero.result _ (omega arith) c.nonzero.ensures)
