-- `contained` meets its contract: by cases on the two tests of the records and the test of containment. Assumes
-- nothing.
use Rattle.std.proofs.Common.{◌≡◌, Bool, true, false, cond, refl}
use Rattle.obligations.specs.Tests.{indicator}
use Rattle.net.specs.Refusals.{accepted}
use Rattle.net.specs.Contained.{contained_says}
use Rattle.net.proofs.containment.contained.Goals as goal

pub returns-then-not-is_orderly : goal.returns-then-not-is_orderly
unfolding contained_says
returns-then-not-is_orderly c = rw (c.at.ensures, ← c.if-not-is_orderly.ensures)

pub returns-then-not-is_orderly-2 : goal.returns-then-not-is_orderly-2
unfolding contained_says
returns-then-not-is_orderly-2 c =
    rw (c.at-then-not-is_orderly-2.ensures, ← c.if-not-is_orderly.ensures, ← c.if-not-is_orderly-2.ensures)

pub returns : goal.returns
unfolding contained_says
returns c = rw (← c.if-not-is_orderly.ensures, ← c.if-not-is_orderly-2.ensures, c.is_contained.ensures) (indicated _)
  where
    indicated : (b : Bool) → accepted (indicator b) ≡ cond b (accepted 1) (accepted 0)
    indicated true = refl
    indicated false = refl
