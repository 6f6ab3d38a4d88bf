-- `is_possible` meets its contract: a binding is possible exactly if its input set is among those because of which the activity is
-- due. Assumes nothing.
use Rattle.std.proofs.Common.{◌∙◌}
use Rattle.obligations.proofs.CountLaws.{subset_possible}
use Rattle.obligations.proofs.state.Due.is_possible.Goals as goal

pub returns : goal.returns
returns c = c.is_subset.ensures ∙ subset_possible c.args.self.now c.args.a c.args.x c.causes.result c.ranges.x.fits c.causes.type_inv c.causes.ensures
