-- `place_in` meets its contract: the elements before the first that isn't below m are below it. Assumes nothing.
use Rattle.std.proofs.Common.{◌≤◌, ◌<◌, sym, ◌∙◌, rules}
use Rattle.std.proofs.lemmas.Iterator.{YieldsList-from_slice, IsFirst-from_position, index_from_first}
use Rattle.net.specs.Lists.{place_in}
use Rattle.net.proofs.InsertLaws.{place-here, place-behind, place-none}
use Rattle.net.proofs.lists.place_in.Goals as goal

pub returns : goal.returns
returns c =
    let a = c.args in
    let m = a.m in
    let found = IsFirst-from_position _ _ c.position.result (λ x. m ≤ x) (λ x. x < m) c.position.ensures.ran (YieldsList-from_slice a.list.now (search rules)) (λ x q h. search rules) (λ x q h. search rules) in
    c.unwrap_or.ensures ∙ sym (index_from_first (place_in m) (λ x. m ≤ x) (λ x. x < m) (place-none m) (place-here m) (place-behind m) a.list.now c.position.result found)
