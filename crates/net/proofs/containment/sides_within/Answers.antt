-- `sides_within` meets its contract: `all` asks of each activity what the definition asks. Assumes nothing.
use Rattle.std.proofs.Common.{refl, ◌∙◌, rules}
use Rattle.std.proofs.lemmas.Iterator.{YieldsList-from_range}
use Rattle.std.proofs.lemmas.Iterator.Search.{all_from_yields_List}
use Rattle.obligations.specs.Limits.{activities}
use Rattle.net.specs.Lists.{all_listed}
use Rattle.net.specs.Sides.{sets_in}
use Rattle.net.specs.Contained.{sides_within}
use Rattle.net.proofs.BelowLaws.{below_list}
use Rattle.net.proofs.containment.sides_within.Goals as goal

pub returns : goal.returns
unfolding sides_within
returns c =
    let s = c.args.sides.now in
    let o = c.args.other.now in
    all_from_yields_List (λ k. all_listed (sets_in s k) (sets_in o k)) _ _ c.all.result c.all.ensures.ran (YieldsList-from_range 0 activities activities refl refl) (λ x b q h. search rules)
    ∙ below_list activities _
