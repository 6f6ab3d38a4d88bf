-- `links` meets its contract. The loop's invariant: each row passed is as it has to be. Assumes nothing.
use Rattle.std.proofs.Common.{ℕ, arith, get_or, length-set}
use Rattle.walks.specs.Links.{linked, links}
use Rattle.walks.proofs.RowLaws.{rows_are, rows-set}
use Rattle.walks.proofs.arcs.links.Goals as goal

pub loop-a-preserved : goal.loop-a-preserved
loop-a-preserved c =
    let s = c.args in
    (omega (arith, length-set {A = ℕ}), rows-set _ (λ k. linked (get_or s.own.now k 0) s.other.now k) _ _ (omega arith) c.linked.ensures c.loop-a.invariant.1)

pub returns : goal.returns
unfolding links
returns c =
    let s = c.args in
    rows_are _ (λ k. linked (get_or s.own.now k 0) s.other.now k) (omega arith) (λ k h. c.loop-a.invariant.1 k (omega arith))
