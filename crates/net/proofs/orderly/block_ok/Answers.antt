-- `block_ok` meets its contract: the tests in the order of the definition, on the used places and the others. Assumes
-- nothing.
use borrow.Author.Tests.{eq-eqb, ne_eqb, lt-leb, le-leb}
use Rattle.net.specs.Orderly.{block_ok}
use Rattle.net.proofs.orderly.block_ok.Goals as goal

pub returns-then-n-eq1 : goal.returns-then-n-eq1
unfolding block_ok
returns-then-n-eq1 c = rw (c.if-only.true, eq-eqb _ _ c.if-n-eq1.true) c.all_zero.ensures

pub returns-else-n-eq1 : goal.returns-else-n-eq1
unfolding block_ok
returns-else-n-eq1 c = rw (c.if-only.true, ne_eqb _ _ c.if-n-eq1.false)

pub returns-then-n-gt-SETS : goal.returns-then-n-gt-SETS
unfolding block_ok
returns-then-n-gt-SETS c = rw (c.if-only.false, lt-leb _ _ c.if-n-gt-SETS.true)

pub returns-then-ascends : goal.returns-then-ascends
unfolding block_ok
returns-then-ascends c = rw (c.if-only.false, le-leb _ _ c.if-n-gt-SETS.false, ← c.if-ascends.ensures) c.unused_zero.ensures

pub returns-else-ascends : goal.returns-else-ascends
unfolding block_ok
returns-else-ascends c = rw (c.if-only.false, le-leb _ _ c.if-n-gt-SETS.false, ← c.if-ascends.ensures) c.if-ascends.false
