-- `put_rows` meets its contract. The loop's invariant: the net is orderly with counts 0, and what the rows say is what the rows left
-- say from that net on. The line numbers don't end before the lines, since a text has few. Assumes nothing.
use Rattle.std.proofs.Common.{◌≡◌, [], refl, sym, ap, ◌∙◌, length, arith}
use mathlib.Core.Logic.{⊎_elim}
use Rattle.std.proofs.lemmas.Result.{err_from_is_err_and}
use Rattle.text.specs.Lines.{lines}
use Rattle.text.specs.Reading.{lines_left}
use Rattle.netfile.specs.NetFile.{read_set_row, read_rows}
use Rattle.netfile.proofs.PutRowLaws.{row-orderly, row-uncounted}
use Rattle.netfile.proofs.FileLaws.{few_lines, rows_more, rows_bad, rows_end}
use Rattle.netfile.proofs.read.put_rows.Goals as goal

pub loop-number-init : goal.loop-number-init
loop-number-init c =
    let z = c.zip-number-items.ensures in
    let i = c.into_iter-number-iterator.ensures.into_iter_gives in
    let n : c.into_iter-number-iterator.result.a.start ≡ 4 = rw (i, z.first) refl in
    let e : lines_left c.into_iter-number-iterator.result.b ≡ lines c.args.rows.now = rw (i, z.second) c.lines_of.ensures in
    rw (n, e) (c.requires.orderly, c.requires.uncounted, omega (arith, few_lines c.args.rows.now), refl)

pub returns-in_err-on_line : goal.returns-in_err-on_line
returns-in_err-on_line c =
    let l = c.loop-number in
    let steps = c.in-Some.ensures.steps in
    let p = err_from_is_err_and c.from_residual.result c.from_residual.ensures.1 in
    rw (p.1, p.2)
    (rows_bad c.in-Some.number l.net c.in-Some.line.now (lines_left c.next.new.self.b) c.put_line.result c.put_line.new.net c.put_line.ensures c.in_err-on_line.field-0.0 c.in_err-on_line.ensures
    ∙ rw (steps.0.0) (ap (read_rows l.number-iterator.a.start l.net) (sym steps.1) ∙ l.invariant.3))

pub loop-number-preserved : goal.loop-number-preserved
loop-number-preserved c =
    let l = c.loop-number in
    let steps = c.in-Some.ensures.steps in
    let put = c.put_line.ensures in
    let o = row-orderly l.net (read_set_row c.in-Some.line.now) l.invariant.0 in
    let u = row-uncounted l.net (read_set_row c.in-Some.line.now) l.invariant.0 l.invariant.1 in (
      rw put.gives o,
      rw put.gives u,
      omega (arith, l.invariant.2, ap length steps.1, steps.0.0, steps.0.1),
      rw (steps.0.1)
          (rows_more c.in-Some.number l.net c.in-Some.line.now (lines_left c.next.new.self.b) c.put_line.result c.put_line.new.net put c.in_ok-on_line.field-0 c.in_ok-on_line.ensures
          ∙ rw (steps.0.0) (ap (read_rows l.number-iterator.a.start l.net) (sym steps.1) ∙ l.invariant.3)),
    )

pub returns : goal.returns
returns c =
    let l = c.loop-number in
    let n = l.number-iterator.a.start in
    let none : lines_left l.number-iterator.b ≡ [] =
    ⊎_elim (λ w. absurd (omega (arith, w.1.0, l.invariant.2, c.requires.short))) (λ w. w.1.0) c.in-None.ensures.steps in
    sym (rows_end n l.net) ∙ ap (read_rows n l.net) (sym none) ∙ l.invariant.3
