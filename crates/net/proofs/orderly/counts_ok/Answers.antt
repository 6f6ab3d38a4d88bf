-- `counts_ok` meets its contract: `all` asks of each activity what the definition asks. Assumes nothing.
use Rattle.std.proofs.Common.{refl, ◌∙◌, rules, get_or, drop}
use Rattle.std.proofs.lemmas.Iterator.{YieldsList-from_range}
use Rattle.std.proofs.lemmas.Iterator.Search.{all_from_yields_List}
use Rattle.obligations.specs.Limits.{activities}
use Rattle.net.specs.Lists.{zeros}
use Rattle.net.specs.Sides.{block}
use Rattle.net.specs.Orderly.{counts_ok}
use Rattle.net.proofs.BelowLaws.{below_list}
use Rattle.net.proofs.orderly.counts_ok.Goals as goal

pub returns : goal.returns
unfolding counts_ok
returns c =
    let s = c.args.sides.now in
    all_from_yields_List (λ k. zeros (drop (get_or s.lengths k 0) (block s.counts k))) _ _ c.all.result c.all.ensures.ran (YieldsList-from_range 0 activities activities refl refl) (λ x b q h. search rules)
    ∙ below_list activities _
