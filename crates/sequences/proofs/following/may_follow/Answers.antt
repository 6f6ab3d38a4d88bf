-- `may_follow` meets its contract: each answer is a link of the chain of refusals. Assumes nothing.
use Rattle.std.proofs.Common.{sym, ◌∙◌}
use Rattle.std.proofs.lemmas.Result.{err_from_is_err_and}
use Rattle.sequences.specs.Follow.{follow_says}
use Rattle.sequences.proofs.FollowLaws.{shaped-trace, follow_ends, follow_gains}
use Rattle.sequences.proofs.following.may_follow.Goals as goal

pub returns-then-not-is_orderly-clause-says : goal.returns-then-not-is_orderly-clause-says
unfolding follow_says
returns-then-not-is_orderly-clause-says c = rw (c.at.ensures, ← c.if-not-is_orderly.ensures)

pub returns-in_err-trace_limits-clause-says : goal.returns-in_err-trace_limits-clause-says
unfolding follow_says
returns-in_err-trace_limits-clause-says c =
    let p = err_from_is_err_and c.from_residual.result c.from_residual.ensures.1 in
    rw (p.1, p.2, ← c.if-not-is_orderly.ensures) (c.in_err-trace_limits.ensures.says _)

pub returns-then-not-is_shaped-clause-says : goal.returns-then-not-is_shaped-clause-says
unfolding follow_says
returns-then-not-is_shaped-clause-says c =
    rw (c.at-then-not-is_shaped.ensures, ← c.if-not-is_orderly.ensures, ← c.in_ok-trace_limits.ensures.says)
    (follow_ends c.args.net.now c.args.trace.now (shaped-trace c.args.net.now.start c.args.net.now.end c.args.trace.now ∙ sym c.if-not-is_shaped.ensures))

pub returns-clause-says : goal.returns-clause-says
unfolding follow_says
returns-clause-says c =
    rw (← c.if-not-is_orderly.ensures, ← c.in_ok-trace_limits.ensures.says)
    (follow_gains c.args.net.now c.args.trace.now (shaped-trace c.args.net.now.start c.args.net.now.end c.args.trace.now ∙ sym c.if-not-is_shaped.ensures))
