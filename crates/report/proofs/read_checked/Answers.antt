-- `read_checked` meets its contract: too long, refused by the reader, refused by the check, or passed. Assumes nothing.
use Rattle.std.proofs.Common.{sym, ap, ◌∙◌}
use Rattle.net.specs.Refusals.{Says, refusal_number}
use Rattle.walks.specs.Check.{check_says}
use Rattle.netfile.specs.NetFile.{net_means}
use Rattle.netfile.proofs.Theorems.{refused-fresh}
use Rattle.report.proofs.ReportLaws.{answer_err, answer_ok, checked_long, checked_unread, checked_refused, checked_passed}
use Rattle.report.proofs.read_checked.Goals as goal

pub returns-then-text-gt-FILE_BYTES : goal.returns-then-text-gt-FILE_BYTES
returns-then-text-gt-FILE_BYTES c = rw (checked_long c.args.text.now c.if-text-gt-FILE_BYTES.true) (rw c.at.ensures at c.refused_reading.ensures)

pub returns-then-is_err : goal.returns-then-is_err
returns-then-is_err c =
    let t = c.args.text.now in
    let r = c.read_net-read in
    let f = answer_err r.result.answer (sym c.if-is_err.ensures.value) in
    let e = sym r.ensures.says ∙ ap net_means f.1 in
    rw (checked_unread t c.if-text-gt-FILE_BYTES.false (refusal_number f.0.refusal) f.0.place e)
    (record { says = ap net_means f.1; gives = r.ensures.gives ∙ refused-fresh t (refusal_number f.0.refusal) f.0.place e })

pub returns-in-Ok : goal.returns-in-Ok
returns-in-Ok c =
    let r = c.read_net-read in
    let k = ap (λ (y : Says). y.ok) (sym r.ensures.says) ∙ answer_ok r.result.answer (sym c.if-is_err.ensures.value) in
    rw (checked_passed c.args.text.now c.if-text-gt-FILE_BYTES.false k (ap (λ (y : Says). y.ok) (sym (ap check_says r.ensures.gives) ∙ sym c.in-Ok.ensures))) r.ensures

pub returns-in-Err : goal.returns-in-Err
returns-in-Err c =
    let r = c.read_net-read in
    let k = ap (λ (y : Says). y.ok) (sym r.ensures.says) ∙ answer_ok r.result.answer (sym c.if-is_err.ensures.value) in
    rw (checked_refused c.args.text.now c.if-text-gt-FILE_BYTES.false k (refusal_number c.in-Err.refused.refusal) c.in-Err.refused.place (sym (ap check_says r.ensures.gives) ∙ sym c.in-Err.ensures)) (rw c.at-in-Err.ensures at c.refused_reading-in-Err.ensures)
