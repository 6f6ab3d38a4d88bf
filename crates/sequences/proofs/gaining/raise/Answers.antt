-- `raise` meets its contract: by cases on whether the count is below its top. Assumes nothing.
use Rattle.std.proofs.Common.{lt-ltb, le-ltb}
use Rattle.sequences.specs.Gain.{raised_at, topped_at}
use Rattle.sequences.proofs.gaining.raise.Goals as goal

pub returns-then-count-lt-MOST_USES : goal.returns-then-count-lt-MOST_USES
unfolding raised_at topped_at
returns-then-count-lt-MOST_USES c = let l = lt-ltb _ _ c.if-count-lt-MOST_USES.true in record { tops = rw l; counts_are = rw l }

pub returns-else-count-lt-MOST_USES : goal.returns-else-count-lt-MOST_USES
unfolding raised_at topped_at
returns-else-count-lt-MOST_USES c = let l = le-ltb _ _ c.if-count-lt-MOST_USES.false in record { tops = rw l; counts_are = rw l }
