use Rattle.std.proofs.Common.{length}
use Rattle.search.specs.Replay.{checked_says}
use Rattle.wholelog.specs.Computed.{rows_of}
use Rattle.wholelog.specs.Left.{rows_left}
use Rattle.wholelog.proofs.SumLaws.{SoFar}
use Rattle.wholelog.proofs.sharing.replay_rows.Given as goal

abbrev pub invariant-loop-row : goal.invariant-loop-row
invariant-loop-row l = SoFar (λ t. checked_says l.net t l.budget) (rows_of l.log) (rows_left l.rows) l.sums

abbrev pub decreases-loop-row : goal.decreases-loop-row
decreases-loop-row l = length (rows_left l.rows)
