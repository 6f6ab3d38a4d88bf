-- `write_rows` meets its contract. The loop's invariant: the lines of the rows left, stored, give the buffer with all lines stored.
-- Assumes nothing.
use Rattle.std.proofs.Common.{ℕ, ◌+◌, ap, ◌∙◌}
use Rattle.std.specs.Prelude.{List}
use Rattle.text.proofs.StoreLaws.{storing_start, storing_room, storing_more, storing_end}
use Rattle.net.specs.declared.sides.Side.TheVariants.{Input, Output}
use Rattle.net.proofs.OrderlyLaws.{orderly_fit}
use Rattle.search.specs.Replay.{ReplaySays, outcome_means, checked_says}
use Rattle.wholelog.specs.Computed.{rows_of}
use Rattle.wholelog.specs.Left.{rows_left, rows_given}
use Rattle.report.specs.RowLines.{report_line, rows_text}
use Rattle.report.specs.Report.{row_budget}
use Rattle.report.proofs.TextLaws.{rows-none, given_line}
use Rattle.report.proofs.write_rows.Goals as goal

pub loop-row-init : goal.loop-row-init
loop-row-init c =
    let a = c.args in
    let answer : List ℕ → ReplaySays = λ t. checked_says a.net.now t row_budget in
    let rows = c.new-rows.result in
    let e = ap (λ (n : ℕ). rows_text answer (n + 1) (rows_left rows)) c.new-rows.ensures.none_given ∙ ap (rows_text answer 1) c.new-rows.ensures.left in
    storing_start a.out.now (rows_text answer 1 (rows_of a.text.now)) _ c.requires.room e

pub replay_next-requires : goal.replay_next-requires
replay_next-requires c = (orderly_fit c.args.net.now c.requires.orderly Input, orderly_fit c.args.net.now c.requires.orderly Output)

pub write_row-requires : goal.write_row-requires
write_row-requires c =
    let answer : List ℕ → ReplaySays = λ t. checked_says c.args.net.now t row_budget in
    let new = c.replay_next.new.self in
    let row = c.in-Some.row in
    storing_room _ _ _ _ c.loop-row.invariant (report_line row.row row.sessions (outcome_means row.outcome)) (rows_text answer (rows_given new + 1) (rows_left new)) (given_line answer c.loop-row.rows new row c.in-Some.ensures.row)

pub loop-row-preserved : goal.loop-row-preserved
loop-row-preserved c =
    let answer : List ℕ → ReplaySays = λ t. checked_says c.args.net.now t row_budget in
    let new = c.replay_next.new.self in
    let row = c.in-Some.row in
    storing_more _ _ _ _ c.loop-row.invariant (report_line row.row row.sessions (outcome_means row.outcome)) (rows_text answer (rows_given new + 1) (rows_left new)) _ (given_line answer c.loop-row.rows new row c.in-Some.ensures.row) c.write_row.ensures

pub returns : goal.returns
returns c =
    let answer : List ℕ → ReplaySays = λ t. checked_says c.args.net.now t row_budget in
    let n : ℕ = rows_given c.loop-row.rows + 1 in
    storing_end _ _ _ _ c.loop-row.invariant (ap (rows_text answer n) c.in_default.ensures.row.none ∙ rows-none answer n)
