-- `sequence_limits` meets its contract. The length is tested first, so that it is one that `third` takes; three times its third
-- is the length exactly where the words are a multiple of three. Then each answer is a law of the limits. Assumes nothing.
use Rattle.std.proofs.Common.{arith, sym}
use Rattle.sequences.proofs.LimitLaws.{words_uneven, words_many, limits_too_long, positions_many, limits_no_activity, limits_within, limits_facts}
use Rattle.sequences.proofs.limits.sequence_limits.Goals as goal

pub returns-then-size-gt-SEQUENCE_WORDS-clause-says : goal.returns-then-size-gt-SEQUENCE_WORDS-clause-says
returns-then-size-gt-SEQUENCE_WORDS-clause-says c = rw c.at.ensures (limits_too_long c.args.words.now (words_many c.args.words.now c.if-size-gt-SEQUENCE_WORDS.true))

pub returns-then-n-size-clause-says : goal.returns-then-n-size-clause-says
returns-then-n-size-clause-says c =
    rw c.at-then-n-size.ensures (limits_too_long c.args.words.now (words_uneven c.args.words.now (λ e. omega (arith, c.if-n-size.true, c.third-n.ensures))))

pub returns-in-Some-clause-says : goal.returns-in-Some-clause-says
returns-in-Some-clause-says c =
    rw c.at-in-Some.ensures (limits_no_activity c.args.words.now c.third-n.result (omega arith) (omega (arith, c.if-n-size.false)) c.in-Some.place (sym c.in-Some.ensures))

pub returns-in-None-clause-says : goal.returns-in-None-clause-says
returns-in-None-clause-says c = limits_within c.args.words.now c.third-n.result (omega arith) (omega (arith, c.if-n-size.false)) (sym c.in-None.ensures)

pub returns-in-None-clause-counts : goal.returns-in-None-clause-counts
returns-in-None-clause-counts c = positions_many c.args.words.now c.third-n.result (omega arith) (omega (arith, c.if-n-size.false))

pub returns-in-None-clause-within : goal.returns-in-None-clause-within
returns-in-None-clause-within c = limits_facts c.args.words.now c.third-n.result (omega arith) (omega (arith, c.if-n-size.false)) (sym c.in-None.ensures)
