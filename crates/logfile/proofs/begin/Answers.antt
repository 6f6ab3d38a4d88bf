-- `begin` meets its contract: the line's number decides, then the header's bytes. Assumes nothing.
use Rattle.std.proofs.Common.{sym}
use Rattle.std.proofs.lemmas.List.{take_rest}
use borrow.Author.Tests.{not-true, not-false}
use borrow.Author.Rules.{rules}
use Rattle.logfile.proofs.FileLaws.{begun-row, begun_right, begun_wrong}
use Rattle.logfile.proofs.begin.Goals as goal

pub returns-then-cursor-gt1 : goal.returns-then-cursor-gt1
returns-then-cursor-gt1 c = (rw c.min-at.ensures (begun-row c.args.text.now _ c.args.cursor.line c.if-cursor-gt1.true), search rules)

pub returns-then-ne : goal.returns-then-ne
returns-then-ne c =
    let s = c.split_line in (
      c.at.ensures,
      rw c.min-at.ensures at (begun_wrong c.args.text.now c.min-at.result c.args.cursor.line c.if-cursor-gt1.false s.result.0.now s.result.1.now (rw take_rest at s.ensures.line) (rw take_rest at s.ensures.rest) (not-true _ (sym (rw c.as_slice.ensures at c.if-ne.ensures)))),
    )

pub returns : goal.returns
returns c =
    let s = c.split_line in
    (rw c.min-at.ensures at (begun_right c.args.text.now c.min-at.result c.args.cursor.line c.if-cursor-gt1.false s.result.0.now s.result.1.now (rw take_rest at s.ensures.line) (rw take_rest at s.ensures.rest) (search rules) (not-false _ (sym (rw c.as_slice.ensures at c.if-ne.ensures)))), search rules)
