-- `is_misplaced` meets its contract: by cases on whether the set is empty. Assumes nothing.
use borrow.Author.Tests.{eq-eqb, ne_eqb}
use Rattle.net.specs.Put.{misplaced}
use Rattle.net.proofs.putting.is_misplaced.Goals as goal

pub returns-then-m-eq0 : goal.returns-then-m-eq0
unfolding misplaced
returns-then-m-eq0 c = rw (eq-eqb _ _ c.if-m-eq0.true)

pub returns-else-m-eq0 : goal.returns-else-m-eq0
unfolding misplaced
returns-else-m-eq0 c = rw (ne_eqb _ _ c.if-m-eq0.false)
