-- `all_listed` meets its contract: `all` asks of each element what the definition asks. Assumes nothing.
use Rattle.std.proofs.Common.{rules}
use Rattle.std.proofs.lemmas.Iterator.{YieldsList-from_slice}
use Rattle.std.proofs.lemmas.Iterator.Search.{all_from_yields_List}
use Rattle.net.specs.Lists.{listed, all_listed}
use Rattle.net.proofs.lists.all_listed.Goals as goal

pub returns : goal.returns
unfolding all_listed listed
returns c =
    let a = c.args in
    all_from_yields_List (λ x. listed x a.other.now) _ _ c.all.result c.all.ensures.ran (YieldsList-from_slice a.list.now (search rules)) (λ x b q h. search rules)
