-- `end_line` meets its contract: the fields, the word, the members, then the number. Assumes nothing.
use Rattle.std.proofs.Common.{sym, ap, ◌∙◌}
use Rattle.std.proofs.lemmas.Result.{err_from_is_err_and}
use borrow.Author.Tests.{not-true, not-false}
use Rattle.netfile.specs.NetFile.{end_number}
use Rattle.netfile.proofs.RowLaws.{empty_length, end_not_three, end_other_word, end_members, end_plain}
use Rattle.netfile.proofs.line.end_line.Goals as goal
use Rattle.netfile.proofs.line.end_line.Goals.{then-ne-via-then-ne, then-ne-via-else-ne+then-not-is_empty}

pub returns-in_err-first : goal.returns-in_err-first
returns-in_err-first c =
    let p = err_from_is_err_and c.from_residual.result c.from_residual.ensures.1 in
    rw (p.1, p.2, c.in_err-first.ensures.0) (sym (end_not_three c.args.line.now c.in_err-first.ensures.1 c.args.word.now))

pub returns-then-ne : goal.returns-then-ne
returns-then-ne c =
    let f = c.in_ok-first in
    elim c.then-ne.branch [
      | then-ne-via-then-ne w ↦ sym (end_other_word c.args.word.now c.args.line.now f.first.now f.number.now f.members.now f.ensures (not-true _ (sym w.if-ne.ensures)))
      | then-ne-via-else-ne+then-not-is_empty w ↦
          sym (end_members c.args.word.now c.args.line.now f.first.now f.number.now f.members.now f.ensures (not-false _ (sym w.if-ne.ensures)) (sym (empty_length f.members.now) ∙ sym w.if-not-is_empty.ensures))
    ]

pub returns : goal.returns
returns c =
    let f = c.in_ok-first in
    c.ok_or.ensures.value
    ∙ ap end_number c.read_number.ensures
    ∙ sym (end_plain c.args.word.now c.args.line.now f.first.now f.number.now f.members.now f.ensures (not-false _ (sym c.if-ne.ensures)) (sym (empty_length f.members.now) ∙ sym c.if-not-is_empty.ensures))
