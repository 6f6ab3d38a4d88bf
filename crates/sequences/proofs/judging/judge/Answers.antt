-- `judge` meets its contract: each answer is a link of the chain of refusals. Assumes nothing.
use Rattle.std.proofs.Common.{sym, ◌∙◌}
use Rattle.std.proofs.lemmas.Result.{err_from_is_err_and}
use Rattle.obligations.specs.Sequence.{bindings}
use Rattle.net.proofs.UncountedLaws.{uncounted-orderly}
use Rattle.sequences.specs.Judge.{judge_says}
use Rattle.sequences.proofs.WordLaws.{shaped-same}
use Rattle.sequences.proofs.JudgeLaws.{judged_not_passing, judged_ends, judged_missing, judged_run}
use Rattle.sequences.proofs.judging.judge.Goals as goal

pub check_lent-requires : goal.check_lent-requires
check_lent-requires c = uncounted-orderly c.args.net (sym c.if-not-is_orderly.ensures)

pub returns-then-not-is_orderly : goal.returns-then-not-is_orderly
unfolding judge_says
returns-then-not-is_orderly c = rw (c.at.ensures, ← c.if-not-is_orderly.ensures)

pub returns-in_err-n : goal.returns-in_err-n
unfolding judge_says
returns-in_err-n c =
    let p = err_from_is_err_and c.from_residual.result c.from_residual.ensures.1 in
    rw (p.1, p.2, ← c.if-not-is_orderly.ensures) (c.in_err-n.ensures.says _)

pub returns-in_err-check_lent : goal.returns-in_err-check_lent
unfolding judge_says
returns-in_err-check_lent c =
    let r = c.from_residual-in_err-check_lent in
    let p = err_from_is_err_and r.result r.ensures.1 in
    rw (p.1, p.2, ← c.if-not-is_orderly.ensures, ← c.in_ok-n.ensures.says) (judged_not_passing c.args.net (bindings c.args.sequence.now) _ _ c.in_err-check_lent.ensures)

pub returns-then-not-is_shaped : goal.returns-then-not-is_shaped
unfolding judge_says
returns-then-not-is_shaped c =
    let net = c.args.net in
    let ws = c.args.sequence.now in
    rw (c.at-then-not-is_shaped.ensures, ← c.if-not-is_orderly.ensures, ← c.in_ok-n.ensures.says)
    (judged_ends net (bindings ws) _ c.in_ok-check_lent.ensures (shaped-same net.start net.end ws ∙ sym (rw c.in_ok-n.ensures.counts at c.if-not-is_shaped.ensures)))

pub returns-in-Some : goal.returns-in-Some
unfolding judge_says
returns-in-Some c =
    let net = c.args.net in
    let ws = c.args.sequence.now in
    let h = shaped-same net.start net.end ws ∙ sym (rw c.in_ok-n.ensures.counts at c.if-not-is_shaped.ensures) in
    rw (c.at-in-Some.ensures, ← c.if-not-is_orderly.ensures, ← c.in_ok-n.ensures.says)
    (judged_missing net (bindings ws) _ c.in_ok-check_lent.ensures h _ (sym c.in-Some.ensures))

pub returns : goal.returns
unfolding judge_says
returns c =
    let net = c.args.net in
    let ws = c.args.sequence.now in
    let h = shaped-same net.start net.end ws ∙ sym (rw c.in_ok-n.ensures.counts at c.if-not-is_shaped.ensures) in
    rw (← c.if-not-is_orderly.ensures, ← c.in_ok-n.ensures.says) (c.run.ensures ∙ judged_run net (bindings ws) _ c.in_ok-check_lent.ensures h (sym c.in_default.ensures))
