-- `check_lent` meets its contract, of a net that is orderly but for its counts: the rows are the net's arcs, the union has the
-- net's activities, and what is told of them is what the check says. Assumes nothing.
use Rattle.std.proofs.Common.{ℕ, List, ap, ◌∙◌}
use mathlib.Core.Path.{ap₂}
use Rattle.obligations.specs.Sets.{single, union}
use Rattle.net.specs.declared.sides.Side.TheVariants.{Input, Output}
use Rattle.net.specs.Sides.{uncounted}
use Rattle.net.proofs.OrderlyLaws.{ends_facts, orderly_ends}
use Rattle.net.proofs.UncountedLaws.{lent_fit}
use Rattle.walks.specs.Links.{union_of, filled}
use Rattle.walks.proofs.LinkLaws.{rows_say}
use Rattle.walks.proofs.check_lent.Goals as goal

pub named_rows-inputs-requires : goal.named_rows-inputs-requires
named_rows-inputs-requires c = lent_fit c.args.net.now c.requires Input

pub named_rows-outputs-requires : goal.named_rows-outputs-requires
named_rows-outputs-requires c = lent_fit c.args.net.now c.requires Output

pub survey_rows-requires : goal.survey_rows-requires
survey_rows-requires c = let e = ends_facts _ _ (orderly_ends (uncounted c.args.net.now) c.requires) in record { ends_are_activities = (e.0, e.1) }

pub returns : goal.returns
returns c =
    let net = c.args.net.now in
    let ends = ends_facts _ _ (orderly_ends (uncounted net) c.requires) in
    let i = c.named_rows-inputs.ensures in
    let o = c.named_rows-outputs.ensures in
    let on_side : List ℕ → List ℕ → ℕ = λ lengths rows. union (filled lengths) (union_of rows) in
    let all_are =
    c.union-all.ensures
    ∙ ap₂ union
    (c.with-ends.ensures ∙ ap (λ (m : ℕ). union m (single net.end)) c.single.ensures)
    (c.union.ensures
    ∙ ap₂ union
    (c.on_sides-on_inputs.ensures ∙ ap (on_side net.inputs.lengths) i)
    (c.on_sides-on_outputs.ensures ∙ ap (on_side net.outputs.lengths) o)) in
    c.told.ensures ∙ rows_say net i o all_are c.union-all.type_inv ends.0 ends.1 c.survey_rows.ensures
