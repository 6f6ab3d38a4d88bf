-- `all_zero` meets its contract: the loop keeps that the whole list is zero exactly if the elements passed have no bit and the rest
-- is zero. Assumes nothing.
use native.Mathlib.Omega.{arith}
use mathlib.Core.Bool.{◌&&◌, and-true}
use mathlib.Core.Path.{sym, ap, ◌∙◌}
use lib.Dec.{eqb}
use Rattle.net.proofs.ListLaws.{zeros-next, zeros-end}
use Rattle.net.proofs.lists.all_zero.Goals as goal

pub loop-m-preserved : goal.loop-m-preserved
loop-m-preserved c =
    c.loop-m.invariant ∙ zeros-next c.loop-m.bits c.loop-m.m-index c.args.list.now (omega arith)

pub returns : goal.returns
returns c =
    sym (c.loop-m.invariant ∙ ap (λ r. eqb c.loop-m.bits 0 && r) (zeros-end c.loop-m.m-index c.args.list.now (omega arith)) ∙ and-true (eqb c.loop-m.bits 0))
