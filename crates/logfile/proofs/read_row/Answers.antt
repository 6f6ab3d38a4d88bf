-- `read_row` meets its contract. The loop's invariant: what is said of the row is what the lines left say of it, and no word
-- has been written. The line numbers don't end before the lines, since none is far past the last row's. Assumes nothing.
use Rattle.std.proofs.Common.{◌≡◌, [], ◌-◌, refl, sym, ap, ◌∙◌, length, drop, arith}
use mathlib.Core.Logic.{⊎_elim}
use Rattle.std.proofs.lemmas.List.{take_rest}
use Rattle.std.proofs.lemmas.Result.{err_from_is_err_and}
use Rattle.text.specs.Lines.{lines}
use Rattle.text.specs.Reading.{lines_left}
use Rattle.logfile.specs.LogFile.{read_row}
use Rattle.logfile.proofs.AnswerLaws.{read_fault, read_end, read_given, trace_fits}
use Rattle.logfile.proofs.FileLaws.{begun_differs, sizes_room, row_unfit, row_zero, row_start_lem, start_stands, going_start, going_end, going_here, going_fault, going_more}
use Rattle.logfile.proofs.read_row.Goals as goal
use Rattle.logfile.proofs.read_row.Goals.{then-row-eq0-via-then-row-eq0, then-row-eq0-via-else-row-eq0+then-not-sizes_ok}

pub returns-then-row-eq0 : goal.returns-then-row-eq0
returns-then-row-eq0 c =
    let a = c.args in
    let o = a.out.now in
    rw c.at.ensures
    (read_fault (read_row a.text.now a.row (length o)) _ o
    (elim c.then-row-eq0.branch [
      | then-row-eq0-via-then-row-eq0 w ↦ row_zero a.text.now a.row (length o) w.if-row-eq0.true
      | then-row-eq0-via-else-row-eq0+then-not-sizes_ok w ↦ row_unfit a.text.now a.row (length o) (sym w.if-not-sizes_ok.ensures)
    ]))

pub returns-in-Err : goal.returns-in-Err
returns-in-Err c =
    let a = c.args in
    let o = a.out.now in
    let b = start_stands a.text.now c.start.result _ c.start.ensures c.in-Err.ensures.1 in
    rw c.in-Err.ensures.0
    (read_fault (read_row a.text.now a.row (length o)) _ o (row_start_lem a.text.now a.row (length o) (omega (arith, c.if-row-eq0.false)) (sym c.if-not-sizes_ok.ensures) ∙ begun_differs a.text.now 0 1 (a.row - 1) b))

pub loop-number-init : goal.loop-number-init
loop-number-init c =
    let a = c.args in
    let f = c.in-Ok in
    let b = start_stands a.text.now c.start.result _ c.start.ensures f.ensures.0 in
    let z = c.zip-number-items.ensures in
    let i = c.into_iter-number-iterator.ensures.into_iter_gives in
    let n : c.into_iter-number-iterator.result.a.start ≡ f.first.line = rw (i, z.first) refl in
    let e : lines_left c.into_iter-number-iterator.result.b ≡ lines (drop f.first.at a.text.now) = rw (i, z.second) (c.lines_of.ensures ∙ ap lines (take_rest a.text.now f.first.at)) in
    (rw n (going_start a.text.now a.row (length a.out.now) f.first.at f.first.line (lines_left c.into_iter-number-iterator.result.b) (omega (arith, c.if-row-eq0.false)) (sym c.if-not-sizes_ok.ensures) b e), refl)

pub returns-in_err-read : goal.returns-in_err-read
returns-in_err-read c =
    let a = c.args in
    let l = c.loop-number in
    let p = err_from_is_err_and c.from_residual.result c.from_residual.ensures.1 in
    rw (p.1, p.2, l.invariant.1)
    (read_fault (read_row a.text.now a.row (length a.out.now)) c.in_err-read.field-0.0 a.out.now
    (going_fault a.text.now a.row (length a.out.now) (lines_left l.number-iterator.b) c.in-Some.number (rw c.in-Some.ensures.steps.0.0 l.invariant.0) c.in-Some.line.now (lines_left c.next.new.self.b) c.in-Some.ensures.steps.1 _ _ c.in_err-read.ensures))

pub overflow_sub-number : goal.overflow_sub-number
overflow_sub-number c = omega (arith, c.in-Some.ensures.steps.0.0, c.loop-number.invariant.0.low)

pub fill_trace-requires : goal.fill_trace-requires
fill_trace-requires c =
    let a = c.args in
    trace_fits (length c.loop-number.out) c.in_ok-read.ensures (omega (arith, sizes_room a.text.now (length a.out.now) (sym c.if-not-sizes_ok.ensures), ap length c.loop-number.invariant.1))

pub returns-then-from-row : goal.returns-then-from-row
returns-then-from-row c =
    let a = c.args in
    let l = c.loop-number in
    let here : c.in-Some.number - 1 ≡ a.row = sym c.from.ensures ∙ c.if-from-row.true in
    read_given (read_row a.text.now a.row (length a.out.now)) c.in-Some.number c.in-Some.line.now c.in_ok-read.read c.in_ok-read.trace.now a.out.now c.fill_trace.new.out
    (going_here a.text.now a.row (length a.out.now) (lines_left l.number-iterator.b) c.in-Some.number (rw c.in-Some.ensures.steps.0.0 l.invariant.0) c.in-Some.line.now (lines_left c.next.new.self.b) c.in-Some.ensures.steps.1 here)
    c.in_ok-read.ensures (rw l.invariant.1 at c.fill_trace.ensures)

pub loop-number-preserved : goal.loop-number-preserved
loop-number-preserved c =
    let a = c.args in
    let l = c.loop-number in (
      rw c.in-Some.ensures.steps.0.1 (going_more a.text.now a.row (length a.out.now) (lines_left l.number-iterator.b) c.in-Some.number (rw c.in-Some.ensures.steps.0.0 l.invariant.0) c.in-Some.line.now (lines_left c.next.new.self.b) c.in-Some.ensures.steps.1 _ _ c.in_ok-read.ensures.reads (λ e. c.if-from-row.false (c.from.ensures ∙ e))),
      l.invariant.1,
    )

pub returns : goal.returns
returns c =
    let a = c.args in
    let l = c.loop-number in
    let none : lines_left l.number-iterator.b ≡ [] = ⊎_elim (λ w. absurd (omega (arith, w.1.0, l.invariant.0.high))) (λ w. w.1.0) c.in-None.ensures.steps in
    rw l.invariant.1 (read_end (read_row a.text.now a.row (length a.out.now)) a.out.now (going_end a.text.now a.row (length a.out.now) (lines_left l.number-iterator.b) l.number-iterator.a.start l.invariant.0 none))
