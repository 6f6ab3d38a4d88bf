-- `named_rows` meets its contract. The loop's invariant: each row passed is as it has to be. Assumes nothing.
use Rattle.std.proofs.Common.{ℕ, ap, ◌∙◌, arith, length-set}
use Rattle.net.specs.Sides.{sets_in}
use Rattle.walks.specs.Links.{union_of, named_rows}
use Rattle.walks.proofs.RowLaws.{rows_are, rows-set}
use Rattle.walks.proofs.arcs.named_rows.Goals as goal

pub loop-a-preserved : goal.loop-a-preserved
loop-a-preserved c =
    let s = c.args.sides.now in
    (omega (arith, length-set {A = ℕ}), rows-set _ (λ k. union_of (sets_in s k)) _ _ (omega arith) (c.union_of.ensures ∙ ap union_of c.sets.ensures) c.loop-a.invariant.1)

pub returns : goal.returns
unfolding named_rows
returns c =
    let s = c.args.sides.now in
    rows_are _ (λ k. union_of (sets_in s k)) (omega arith) (λ k h. c.loop-a.invariant.1 k (omega arith))
