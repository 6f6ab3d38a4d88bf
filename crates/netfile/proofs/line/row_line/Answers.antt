-- `row_line` meets its contract: the fields, the word, missing members, then the number and the members. Assumes nothing.
use Rattle.std.proofs.Common.{sym, ap, ◌∙◌, ◌≡◌}
use Rattle.std.specs.Prelude.{Result}
use Rattle.std.proofs.lemmas.Result.{err_from_is_err_and}
use Rattle.net.specs.declared.refusal.Refusal.{Refusal}
use Rattle.net.specs.declared.refusal.Refusal.TheVariants.{NumberForm}
use Rattle.net.specs.declared.sides.Side.{Side}
use Rattle.netfile.specs.NetFile.{row_on, row_rest, read_set_row}
use Rattle.netfile.proofs.RowLaws.{empty_length, row_not_three, row_three, rest_missing, rest_no_activity, rest_no_members, rest_set, not_read}
use Rattle.netfile.proofs.line.row_line.Goals as goal

pub returns-in_err-word : goal.returns-in_err-word
returns-in_err-word c =
    let p = err_from_is_err_and c.from_residual.result c.from_residual.ensures.1 in
    rw (p.1, p.2, c.in_err-word.ensures.0) (sym (row_not_three c.args.line.now c.in_err-word.ensures.1))

pub returns-in_err-side : goal.returns-in_err-side
returns-in_err-side c =
    let f = c.in_ok-word in
    let p = err_from_is_err_and c.from_residual-in_err-side.result c.from_residual-in_err-side.ensures.1 in
    rw (p.1, p.2) (ap (λ (s : Result Side Refusal). row_on s f.number.now f.list.now) c.in_err-side.ensures ∙ sym (row_three c.args.line.now f.word.now f.number.now f.list.now f.ensures))

pub returns-then-is_empty : goal.returns-then-is_empty
returns-then-is_empty c =
    let f = c.in_ok-word in
    let on : read_set_row c.args.line.now ≡ row_rest c.in_ok-side.side f.number.now f.list.now =
    row_three c.args.line.now f.word.now f.number.now f.list.now f.ensures ∙ ap (λ (s : Result Side Refusal). row_on s f.number.now f.list.now) (sym c.in_ok-side.ensures) in
    sym (on ∙ rest_missing c.in_ok-side.side f.number.now f.list.now (sym (empty_length f.list.now) ∙ sym c.if-is_empty.ensures))

pub returns-in_err-activity : goal.returns-in_err-activity
returns-in_err-activity c =
    let f = c.in_ok-word in
    let p = err_from_is_err_and c.from_residual-in_err-activity.result c.from_residual-in_err-activity.ensures.1 in
    let on : read_set_row c.args.line.now ≡ row_rest c.in_ok-side.side f.number.now f.list.now =
    row_three c.args.line.now f.word.now f.number.now f.list.now f.ensures ∙ ap (λ (s : Result Side Refusal). row_on s f.number.now f.list.now) (sym c.in_ok-side.ensures) in
    rw (p.1, p.2, not_read c.read_number.result c.in_err-activity.field-0.0 NumberForm c.in_err-activity.ensures.ok_part c.in_err-activity.ensures.value)
    (sym (on ∙ rest_no_activity c.in_ok-side.side f.number.now f.list.now (sym (empty_length f.list.now) ∙ sym c.if-is_empty.ensures) (sym c.read_number.ensures ∙ c.in_err-activity.ensures.ok_part)))

pub returns-in_err-set : goal.returns-in_err-set
returns-in_err-set c =
    let f = c.in_ok-word in
    let p = err_from_is_err_and c.from_residual-in_err-set.result c.from_residual-in_err-set.ensures.1 in
    let on : read_set_row c.args.line.now ≡ row_rest c.in_ok-side.side f.number.now f.list.now =
    row_three c.args.line.now f.word.now f.number.now f.list.now f.ensures ∙ ap (λ (s : Result Side Refusal). row_on s f.number.now f.list.now) (sym c.in_ok-side.ensures) in
    rw (p.1, p.2, not_read c.read_members.result c.in_err-set.field-0.0 NumberForm c.in_err-set.ensures.ok_part c.in_err-set.ensures.value)
    (sym (on ∙ rest_no_members c.in_ok-side.side f.number.now f.list.now (sym (empty_length f.list.now) ∙ sym c.if-is_empty.ensures) c.in_ok-activity.activity (sym c.read_number.ensures ∙ c.in_ok-activity.ensures.ok_part) (sym c.read_members.ensures ∙ c.in_err-set.ensures.ok_part)))

pub returns : goal.returns
returns c =
    let f = c.in_ok-word in
    let on : read_set_row c.args.line.now ≡ row_rest c.in_ok-side.side f.number.now f.list.now =
    row_three c.args.line.now f.word.now f.number.now f.list.now f.ensures ∙ ap (λ (s : Result Side Refusal). row_on s f.number.now f.list.now) (sym c.in_ok-side.ensures) in
    sym (on ∙ rest_set c.in_ok-side.side f.number.now f.list.now (sym (empty_length f.list.now) ∙ sym c.if-is_empty.ensures) c.in_ok-activity.activity c.in_ok-set.set (sym c.read_number.ensures ∙ c.in_ok-activity.ensures.ok_part) (sym c.read_members.ensures ∙ c.in_ok-set.ensures.ok_part))
