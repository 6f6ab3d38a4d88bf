-- `read_members` meets its contract. The loop's invariant: what the list says is what the fields left say after the set so
-- far, with the lowest member still allowed. Assumes nothing.
use Rattle.std.proofs.Common.{sym, ◌∙◌, ◌+◌, ap, arith}
use Rattle.text.specs.Reading.{fields_left}
use Rattle.text.proofs.DecimalLaws.{parse_most}
use Rattle.text.proofs.MemberListLaws.{read_fields, members-start, list_none, list_low, list_more}
use Rattle.text.proofs.members.read_members.Goals as goal

pub loop-field-init : goal.loop-field-init
loop-field-init c =
    members-start c.args.list.now ∙ ap (read_fields 0 0) (sym c.split-field-items.ensures ∙ ap fields_left (sym c.into_iter-field-iterator.ensures.into_iter_gives))

pub returns-in_err-k : goal.returns-in_err-k
returns-in_err-k c =
    let l = c.loop-field in
    c.from_residual.ensures ∙ sym (l.invariant ∙ ap (read_fields l.low l.set) c.in-Some.ensures.steps ∙ list_none l.low l.set _ _ (sym c.in_err-k.ensures))

pub returns-then-k-low : goal.returns-then-k-low
returns-then-k-low c =
    let l = c.loop-field in
    sym (l.invariant ∙ ap (read_fields l.low l.set) c.in-Some.ensures.steps ∙ list_low l.low l.set _ _ _ (sym c.in_ok-k.ensures) c.if-k-low.true)

pub overflow_add-low : goal.overflow_add-low
overflow_add-low c = omega (arith, parse_most _ _ _ (sym c.in_ok-k.ensures))

pub loop-field-preserved : goal.loop-field-preserved
loop-field-preserved c =
    let l = c.loop-field in
    l.invariant ∙ ap (read_fields l.low l.set) c.in-Some.ensures.steps ∙ list_more l.low l.set _ _ _ (sym c.in_ok-k.ensures) c.if-k-low.false
    ∙ ap (λ m. read_fields (c.in_ok-k.k + 1) m (fields_left c.next.new.self)) (sym c.with-set.ensures)
