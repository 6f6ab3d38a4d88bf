-- `row_line` meets its contract: each test decides as the definition says, in the paper's order. Assumes nothing.
use Rattle.std.proofs.Common.{sym, ◌∙◌}
use Rattle.std.proofs.lemmas.Result.{err_from_is_err_and}
use Rattle.logfile.proofs.RowLaws.{not_read, line_not_two, row_no_sessions, row_no_entries, row_long, row_many, row_good}
use Rattle.logfile.proofs.line.row_line.Goals as goal
use Rattle.logfile.proofs.line.row_line.Goals.{then-length-gt-POSITIONS-via-then-length-gt-POSITIONS, then-length-gt-POSITIONS-via-else-length-gt-POSITIONS+then-number}

pub returns-in_default : goal.returns-in_default
returns-in_default c = rw c.at.ensures (line_not_two c.args.number c.args.line.now c.in_default.ensures)

pub returns-in_err-sessions : goal.returns-in_err-sessions
returns-in_err-sessions c =
    let p = err_from_is_err_and c.from_residual.result c.from_residual.ensures.1 in
    rw (p.1, p.2, not_read _ _ _ c.in_err-sessions.ensures.ok_part c.in_err-sessions.ensures.value ∙ c.at-2.ensures)
    (row_no_sessions c.args.number c.args.line.now c.in-Some.first.now c.in-Some.trace.now c.in-Some.ensures (sym c.read_sessions.ensures ∙ c.in_err-sessions.ensures.ok_part))

pub returns-in_default-count_entries : goal.returns-in_default-count_entries
returns-in_default-count_entries c =
    rw c.at-in_default-count_entries.ensures
    (row_no_entries c.args.number c.args.line.now c.in-Some.first.now c.in-Some.trace.now c.in-Some.ensures (sym c.in_default-count_entries.ensures))

pub returns-then-length-gt-POSITIONS : goal.returns-then-length-gt-POSITIONS
returns-then-length-gt-POSITIONS c =
    let s = sym c.read_sessions.ensures ∙ c.in_ok-sessions.ensures.ok_part in
    let k = sym c.in-Some-count_entries.ensures in
    rw c.at-then-length-gt-POSITIONS.ensures
    (elim c.then-length-gt-POSITIONS.branch [
      | then-length-gt-POSITIONS-via-then-length-gt-POSITIONS w ↦
          row_long c.args.number c.args.line.now c.in-Some.first.now c.in-Some.trace.now c.in-Some.ensures c.in_ok-sessions.sessions c.in-Some-count_entries.length s k w.if-length-gt-POSITIONS.true
      | then-length-gt-POSITIONS-via-else-length-gt-POSITIONS+then-number w ↦
          row_many c.args.number c.args.line.now c.in-Some.first.now c.in-Some.trace.now c.in-Some.ensures c.in_ok-sessions.sessions c.in-Some-count_entries.length s k w.if-number.true
    ])

pub returns : goal.returns
returns c =
    row_good c.args.number c.args.line.now c.in-Some.first.now c.in-Some.trace.now c.in-Some.ensures c.in_ok-sessions.sessions c.in-Some-count_entries.length (sym c.read_sessions.ensures ∙ c.in_ok-sessions.ensures.ok_part) (sym c.in-Some-count_entries.ensures) c.if-length-gt-POSITIONS.false c.if-number.false
