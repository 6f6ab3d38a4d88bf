-- `may_learn` meets its contract: each answer is a link of the chain of refusals. Assumes nothing.
use Rattle.std.proofs.Common.{sym, ◌∙◌}
use Rattle.std.proofs.lemmas.Result.{err_from_is_err_and}
use Rattle.obligations.specs.Sequence.{bindings}
use Rattle.sequences.specs.Learn.{learn_says}
use Rattle.sequences.proofs.WordLaws.{shaped-same}
use Rattle.sequences.proofs.LearnLaws.{learn_ends, learn_empty, learn_run, learn_gains}
use Rattle.sequences.proofs.learning.may_learn.Goals as goal

pub returns-then-not-is_orderly-clause-says : goal.returns-then-not-is_orderly-clause-says
unfolding learn_says
returns-then-not-is_orderly-clause-says c = rw (c.at.ensures, ← c.if-not-is_orderly.ensures)

pub returns-in_err-n-clause-says : goal.returns-in_err-n-clause-says
unfolding learn_says
returns-in_err-n-clause-says c =
    let p = err_from_is_err_and c.from_residual.result c.from_residual.ensures.1 in
    rw (p.1, p.2, ← c.if-not-is_orderly.ensures) (c.in_err-n.ensures.says _)

pub returns-then-not-is_shaped-clause-says : goal.returns-then-not-is_shaped-clause-says
unfolding learn_says
returns-then-not-is_shaped-clause-says c =
    let net = c.args.net.now in
    let ws = c.args.words.now in
    rw (c.at-then-not-is_shaped.ensures, ← c.if-not-is_orderly.ensures, ← c.in_ok-n.ensures.says)
    (learn_ends net (bindings ws) (shaped-same net.start net.end ws ∙ sym (rw c.in_ok-n.ensures.counts at c.if-not-is_shaped.ensures)))

pub returns-in-Some-clause-says : goal.returns-in-Some-clause-says
unfolding learn_says
returns-in-Some-clause-says c =
    let net = c.args.net.now in
    let ws = c.args.words.now in
    let h = shaped-same net.start net.end ws ∙ sym (rw c.in_ok-n.ensures.counts at c.if-not-is_shaped.ensures) in
    rw (c.at-in-Some.ensures, ← c.if-not-is_orderly.ensures, ← c.in_ok-n.ensures.says) (learn_empty net (bindings ws) h _ (sym c.in-Some.ensures))

pub returns-in_err-run-clause-says : goal.returns-in_err-run-clause-says
unfolding learn_says
returns-in_err-run-clause-says c =
    let net = c.args.net.now in
    let ws = c.args.words.now in
    let h = shaped-same net.start net.end ws ∙ sym (rw c.in_ok-n.ensures.counts at c.if-not-is_shaped.ensures) in
    let r = c.from_residual-in_err-run in
    let p = err_from_is_err_and r.result r.ensures.1 in
    rw (p.1, p.2, ← c.if-not-is_orderly.ensures, ← c.in_ok-n.ensures.says) (learn_run net (bindings ws) h (sym c.in_default.ensures) _ _ c.in_err-run.ensures)

pub returns-clause-says : goal.returns-clause-says
unfolding learn_says
returns-clause-says c =
    let net = c.args.net.now in
    let ws = c.args.words.now in
    let h = shaped-same net.start net.end ws ∙ sym (rw c.in_ok-n.ensures.counts at c.if-not-is_shaped.ensures) in
    rw (← c.if-not-is_orderly.ensures, ← c.in_ok-n.ensures.says) (learn_gains net (bindings ws) h (sym c.in_default.ensures) _ c.in_ok-run.ensures)
