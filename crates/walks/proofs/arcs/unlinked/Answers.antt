-- `unlinked` meets its contract: the set has the activities that pass the definition's test, since a row has a member that the
-- links lack exactly if it without them is not empty. Assumes nothing.
use Rattle.std.proofs.Common.{ℕ, Bool, ◌≡◌, ◌&&◌, get_or, rules, tests, ◌∙◌, refl}
use Rattle.std.proofs.lemmas.Iterator.{YieldsList-from_range}
use Rattle.std.proofs.lemmas.Iterator.Consumers.{YieldsList-from_filter, fold_from_yields_List}
use mathlib.Core.Bool.{not}
use lib.Dec.{eqb}
use Rattle.obligations.specs.Sets.{minus, union, single}
use Rattle.walks.specs.Below.{any_below}
use Rattle.walks.specs.Rows.{has}
use Rattle.walks.specs.Links.{unlinked}
use Rattle.walks.proofs.BelowLaws.{lacked}
use Rattle.walks.proofs.SiftLaws.{sifted_all}
use Rattle.walks.proofs.arcs.unlinked.Goals as goal

pub returns : goal.returns
unfolding unlinked has
returns c =
    let own = c.args.own.now in
    let links = c.args.links.now in
    let test : ℕ → Bool = λ a. any_below 32 (λ b. has own a b && not (has links a b)) in
    fold_from_yields_List _ (λ m k. union m (single k)) 0 c.fold.result c.fold.ensures.ran
    (YieldsList-from_filter _ test (YieldsList-from_range 0 32 32 c.filter.ensures.source refl) c.filter.ensures.closure
    (λ x r q k.
    let f : (q ≡ (c.args.own, c.args.links)) × (r ≡ not (eqb (minus (get_or own x 0) (get_or links x 0)) 0)) = search (rules, tests) in
    (f.0, f.1 ∙ lacked (get_or own x 0) (get_or links x 0) (c.fits-own x) (c.fits-links x))))
    (λ a x r q k. search (rules, tests))
    ∙ sifted_all test
