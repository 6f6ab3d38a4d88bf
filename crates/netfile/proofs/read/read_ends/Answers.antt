-- `read_ends` meets its contract: by what lines 2 and 3 say, and then by whether the ends are equal. Assumes nothing.
use Rattle.std.proofs.Common.{sym, ap, ◌∙◌, arith}
use Rattle.std.proofs.lemmas.Result.{err_from_is_err_and}
use Rattle.net.proofs.OrderlyLaws.{facts_ends}
use Rattle.netfile.specs.NetFile.{refused_with}
use Rattle.netfile.proofs.FileLaws.{start_refused, start_given, end_refused, ends_same, ends_differ, rest_short}
use Rattle.netfile.proofs.read.read_ends.Goals as goal

pub returns-in_err-start : goal.returns-in_err-start
returns-in_err-start c =
    let s = c.split_line in
    let p = err_from_is_err_and c.from_residual.result c.from_residual.ensures.1 in
    rw (p.1, p.2) (start_refused c.args.text.now s.result.0.now s.result.1.now s.ensures.line s.ensures.rest c.in_err-start.field-0.0 (rw c.end_line.ensures at c.in_err-start.ensures))

pub returns-in_err-end : goal.returns-in_err-end
returns-in_err-end c =
    let s = c.split_line in
    let t = c.split_line-2 in
    let p = err_from_is_err_and c.from_residual-in_err-end.result c.from_residual-in_err-end.ensures.1 in
    let g = start_given c.args.text.now s.result.0.now s.result.1.now s.ensures.line s.ensures.rest c.in_ok-start.start (rw c.end_line.ensures at c.in_ok-start.ensures) in
    rw (p.1, p.2, g.1) (end_refused s.result.1.now t.result.0.now t.result.1.now t.ensures.line t.ensures.rest c.in_ok-start.start c.in_err-end.field-0.0 (rw c.end_line-2.ensures at c.in_err-end.ensures))

pub returns-then-start-end : goal.returns-then-start-end
returns-then-start-end c =
    let s = c.split_line in
    let t = c.split_line-2 in
    let g = start_given c.args.text.now s.result.0.now s.result.1.now s.ensures.line s.ensures.rest c.in_ok-start.start (rw c.end_line.ensures at c.in_ok-start.ensures) in
    ap refused_with c.at.ensures
    ∙ ends_same s.result.1.now t.result.0.now t.result.1.now t.ensures.line t.ensures.rest c.in_ok-start.start c.in_ok-end.end (rw c.end_line-2.ensures at c.in_ok-end.ensures) c.if-start-end.true
    ∙ sym g.1

pub returns : goal.returns
returns c =
    let s = c.split_line in
    let t = c.split_line-2 in
    let g = start_given c.args.text.now s.result.0.now s.result.1.now s.ensures.line s.ensures.rest c.in_ok-start.start (rw c.end_line.ensures at c.in_ok-start.ensures) in
    let h = ends_differ s.result.1.now t.result.0.now t.result.1.now t.ensures.line t.ensures.rest c.in_ok-start.start c.in_ok-end.end (rw c.end_line-2.ensures at c.in_ok-end.ensures) c.if-start-end.false in
    record {
      ends = facts_ends c.in_ok-start.start c.in_ok-end.end g.0 h.0 c.if-start-end.false;
      short = omega (arith, rest_short c.args.text.now s.result.0.now s.result.1.now s.ensures.line s.ensures.rest, rest_short s.result.1.now t.result.0.now t.result.1.now t.ensures.line t.ensures.rest);
      left = h.1 ∙ sym g.1;
    }
