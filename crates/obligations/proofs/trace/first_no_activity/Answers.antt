-- `first_no_activity` meets its contract: `find` looks for the first position that the definition's test fails at. Assumes nothing.
use Rattle.std.proofs.Common.{rules, tests, arith, ◌≡◌, ℕ, get_or, ◌*◌, ◌+◌, refl, ◌∙◌, option_map, ltb}
use mathlib.Core.Bool.{not}
use Rattle.std.proofs.lemmas.Iterator.{YieldsList-from_range}
use Rattle.std.proofs.lemmas.Iterator.Search.{find_from_yields_List}
use Rattle.std.specs.List.{range_with_len, find}
use Rattle.obligations.proofs.TraceLaws.{found_first}
use Rattle.obligations.proofs.trace.first_no_activity.Goals as goal

pub returns : goal.returns
returns c =
    let a = c.args in
    let at : ℕ → ℕ = λ i. get_or a.words.now (a.stride * i) 0 in
    let found : option_map (λ (x : ℕ). x) c.find.result ≡ find (λ i. not (ltb (at i) 32)) (range_with_len 0 a.n) =
    find_from_yields_List (λ i. not (ltb (at i) 32)) _ _ c.find.result c.find.ensures.ran (YieldsList-from_range 0 a.n a.n refl (omega arith)) (λ x b q h. search (rules, tests)) in
    let mapped : c.map.result ≡ option_map (λ i. i + 1) c.find.result = search (rules, tests) in
    mapped ∙ found_first a.n at c.find.result found
