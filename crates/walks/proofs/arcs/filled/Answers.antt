-- `filled` meets its contract: the set has the activities that pass the definition's test. Assumes nothing.
use Rattle.std.proofs.Common.{ℕ, Bool, get_or, rules, tests, ◌∙◌, refl}
use Rattle.std.proofs.lemmas.Iterator.{YieldsList-from_range}
use Rattle.std.proofs.lemmas.Iterator.Consumers.{YieldsList-from_filter, fold_from_yields_List}
use mathlib.Core.Bool.{not}
use lib.Dec.{eqb}
use Rattle.obligations.specs.Sets.{union, single}
use Rattle.walks.specs.Links.{filled}
use Rattle.walks.proofs.SiftLaws.{sifted_all}
use Rattle.walks.proofs.arcs.filled.Goals as goal

pub returns : goal.returns
unfolding filled
returns c =
    let test : ℕ → Bool = λ a. not (eqb (get_or c.args.lengths.now a 0) 0) in
    fold_from_yields_List _ (λ m k. union m (single k)) 0 c.fold.result c.fold.ensures.ran
    (YieldsList-from_filter _ test (YieldsList-from_range 0 32 32 c.filter.ensures.source refl) c.filter.ensures.closure (λ x r q k. search (rules, tests)))
    (λ a x r q k. search (rules, tests))
    ∙ sifted_all test
