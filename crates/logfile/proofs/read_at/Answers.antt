-- `read_at` meets its contract: the header is passed if it is the cursor's line, then the line there is read as a row. Assumes nothing.
use Rattle.std.proofs.Common.{sym, ◌∙◌, length, arith}
use Rattle.std.proofs.lemmas.List.{take_rest}
use Rattle.std.proofs.lemmas.Result.{err_from_is_err_and}
use Rattle.logfile.specs.Cursor.{standing, read_next}
use Rattle.logfile.proofs.AnswerLaws.{line_row, read_fault, read_end, read_given, trace_fits}
use Rattle.logfile.proofs.FileLaws.{begun-passed, sizes_room, next_unfit, next_differs, next_end, next_reads, cursor_fault, cursor_end, cursor_goes}
use Rattle.logfile.proofs.read_at.Goals as goal

pub returns-then-not-sizes_ok : goal.returns-then-not-sizes_ok
returns-then-not-sizes_ok c =
    let a = c.args in
    let k = a.cursor.now in
    let o = a.out.now in
    let q = next_unfit a.text.now k (length o) (sym c.if-not-sizes_ok.ensures) in
    rw c.at.ensures (record { reads = read_fault (read_next a.text.now k (length o)) _ o q; goes_on = cursor_fault a.text.now k (read_next a.text.now k (length o)) _ _ q })

pub returns-in-Err : goal.returns-in-Err
returns-in-Err c =
    let a = c.args in
    let k = a.cursor.now in
    let o = a.out.now in
    let q = next_differs a.text.now k (length o) (sym c.if-not-sizes_ok.ensures) c.in-Err.ensures.1 in
    rw c.in-Err.ensures.0 (record { reads = read_fault (read_next a.text.now k (length o)) _ o q; goes_on = cursor_fault a.text.now k (read_next a.text.now k (length o)) _ _ q })

pub returns-then-here-text : goal.returns-then-here-text
returns-then-here-text c =
    let a = c.args in
    let k = a.cursor.now in
    let o = a.out.now in
    let here = c.in-Ok.here in
    let p = begun-passed a.text.now (standing a.text.now k) k.line here.at here.line (omega arith) c.in-Ok.ensures.0 in
    let q = next_end a.text.now k (length o) (sym c.if-not-sizes_ok.ensures) here.at here.line p (omega (arith, c.if-here-text.true)) in
    record { reads = read_end (read_next a.text.now k (length o)) o q; goes_on = cursor_end a.text.now k (read_next a.text.now k (length o)) q }

pub returns-in_err-row : goal.returns-in_err-row
returns-in_err-row c =
    let a = c.args in
    let k = a.cursor.now in
    let o = a.out.now in
    let here = c.in-Ok.here in
    let x = read_next a.text.now k (length o) in
    let r = err_from_is_err_and c.from_residual.result c.from_residual.ensures.1 in
    let p = begun-passed a.text.now (standing a.text.now k) k.line here.at here.line (omega arith) c.in-Ok.ensures.0 in
    let q = next_reads a.text.now k (length o) (sym c.if-not-sizes_ok.ensures) here.at here.line p c.split_line.result.0.now (omega (arith, c.in-Ok.ensures.1, c.if-here-text.false)) (rw take_rest at c.split_line.ensures.line) ∙ c.in_err-row.ensures in
    rw (r.1, r.2) (record { reads = read_fault x c.in_err-row.field-0.0 o q; goes_on = cursor_fault a.text.now k x _ _ q })

pub fill_trace-requires : goal.fill_trace-requires
fill_trace-requires c = trace_fits (length c.args.out.now) c.in_ok-row.ensures (sizes_room c.args.text.now (length c.args.out.now) (sym c.if-not-sizes_ok.ensures))

pub overflow_add-cursor : goal.overflow_add-cursor
overflow_add-cursor c =
    let w = line_row c.in-Ok.here.line c.split_line.result.0.now _ _ c.in_ok-row.ensures.reads in
    omega (arith, w.line_low)

pub returns : goal.returns
returns c =
    let a = c.args in
    let k = a.cursor.now in
    let o = a.out.now in
    let here = c.in-Ok.here in
    let x = read_next a.text.now k (length o) in
    let p = begun-passed a.text.now (standing a.text.now k) k.line here.at here.line (omega arith) c.in-Ok.ensures.0 in
    let q = next_reads a.text.now k (length o) (sym c.if-not-sizes_ok.ensures) here.at here.line p c.split_line.result.0.now (omega (arith, c.in-Ok.ensures.1, c.if-here-text.false)) (rw take_rest at c.split_line.ensures.line) in
    record {
      reads = read_given x here.line c.split_line.result.0.now c.in_ok-row.row c.in_ok-row.trace.now o c.fill_trace.new.out q c.in_ok-row.ensures c.fill_trace.ensures;
      goes_on = cursor_goes a.text.now k here.at here.line _ _ p x (q ∙ c.in_ok-row.ensures.reads) c.split_line.result.1.now (rw take_rest at c.split_line.ensures.rest);
    }
