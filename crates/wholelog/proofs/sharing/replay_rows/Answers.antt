-- `replay_rows` meets its contract. The loop's invariant: the sums so far with those of the rows left are those of all. Assumes nothing.
use Rattle.std.proofs.Common.{ℕ}
use Rattle.std.specs.Prelude.{List}
use Rattle.search.specs.Replay.{ReplaySays, checked_says}
use Rattle.wholelog.specs.Computed.{rows_of}
use Rattle.wholelog.specs.Left.{rows_left}
use Rattle.wholelog.proofs.RowsLaws.{found_within}
use Rattle.wholelog.proofs.SumLaws.{sums-within, so_far_end, so_far_within, so_far_next}
use Rattle.wholelog.proofs.sharing.replay_rows.Goals as goal

pub with-sums-requires : goal.with-sums-requires
with-sums-requires c =
    let a = c.args in
    let answer : List ℕ → ReplaySays = λ t. checked_says a.net.now t a.budget in
    let ws = rows_of a.log.now in
    let within = found_within a.log.now in
    let more = so_far_next answer ws c.loop-row.rows c.replay_next.new.self c.in-Some.row c.loop-row.sums c.in-Some.ensures.row c.loop-row.invariant in
    so_far_within answer ws (rows_left c.replay_next.new.self) _ more (sums-within answer ws within.0 within.1)

pub loop-row-preserved : goal.loop-row-preserved
loop-row-preserved c =
    let a = c.args in
    let answer : List ℕ → ReplaySays = λ t. checked_says a.net.now t a.budget in
    rw c.with-sums.ensures (so_far_next answer (rows_of a.log.now) c.loop-row.rows c.replay_next.new.self c.in-Some.row c.loop-row.sums c.in-Some.ensures.row c.loop-row.invariant)

pub returns : goal.returns
returns c =
    let a = c.args in
    so_far_end (λ t. checked_says a.net.now t a.budget) (rows_of a.log.now) (rows_left c.loop-row.rows) c.loop-row.sums c.in_default.ensures.row.none c.loop-row.invariant
