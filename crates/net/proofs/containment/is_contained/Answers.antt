-- `is_contained` meets its contract: the tests in the order of the definition. Assumes nothing.
use borrow.Author.Tests.{eq-eqb, ne_eqb}
use Rattle.net.specs.declared.sides.Side.TheVariants.{Input, Output}
use Rattle.net.specs.Contained.{contained}
use Rattle.net.proofs.OrderlyLaws.{orderly_fit}
use Rattle.net.proofs.containment.is_contained.Goals as goal
use Rattle.net.proofs.containment.is_contained.Goals.{then-net-other-via-then-net-other, then-net-other-via-else-net-other+then-net-other-2}

pub returns-then-net-other : goal.returns-then-net-other
unfolding contained
returns-then-net-other c = elim c.then-net-other.branch [
  | then-net-other-via-then-net-other w ↦ rw (ne_eqb _ _ w.if-net-other.true)
  | then-net-other-via-else-net-other+then-net-other-2 w ↦ rw (eq-eqb _ _ w.if-net-other.false, ne_eqb _ _ w.if-net-other-2.true)
]

pub sides_within-requires : goal.sides_within-requires
sides_within-requires c =
    let o = c.requires in
    (orderly_fit c.args.net.now o.0 Input, orderly_fit c.args.other.now o.1 Input)

pub sides_within-requires-then-sides_within : goal.sides_within-requires-then-sides_within
sides_within-requires-then-sides_within c =
    let o = c.requires in
    (orderly_fit c.args.net.now o.0 Output, orderly_fit c.args.other.now o.1 Output)

pub returns-then-sides_within : goal.returns-then-sides_within
unfolding contained
returns-then-sides_within c =
    rw (eq-eqb _ _ c.if-net-other.false, eq-eqb _ _ c.if-net-other-2.false, ← c.if-sides_within.ensures) c.sides_within-then-sides_within.ensures

pub returns-else-sides_within : goal.returns-else-sides_within
unfolding contained
returns-else-sides_within c =
    rw (eq-eqb _ _ c.if-net-other.false, eq-eqb _ _ c.if-net-other-2.false, ← c.if-sides_within.ensures) c.if-sides_within.false
