-- `ends_ok` meets its contract: one test after the other, as in the definition. Assumes nothing.
use Rattle.std.proofs.Common.{rules}
use borrow.Author.Tests.{lt-ltb, le-ltb}
use mathlib.Core.Logic.{inl, inr}
use Rattle.net.specs.Orderly.{ends_ok}
use Rattle.net.proofs.orderly.ends_ok.Goals as goal

pub returns-then-end-lt-ACTIVITIES : goal.returns-then-end-lt-ACTIVITIES
unfolding ends_ok
returns-then-end-lt-ACTIVITIES c = rw (lt-ltb _ _ c.if-end-lt-ACTIVITIES.true.0, lt-ltb _ _ c.if-end-lt-ACTIVITIES.true.1)

pub returns-else-end-lt-ACTIVITIES : goal.returns-else-end-lt-ACTIVITIES
unfolding ends_ok
returns-else-end-lt-ACTIVITIES c = elim c.if-end-lt-ACTIVITIES.either [ inl p ↦ rw (lt-ltb _ _ p.0, le-ltb _ _ p.1) (search rules) | inr p ↦ rw (le-ltb _ _ p) (search rules) ]
