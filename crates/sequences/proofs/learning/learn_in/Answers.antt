-- `learn_in` meets its contract: the refusals up to 11, and then what gaining answers. Assumes nothing.
use Rattle.std.proofs.Common.{◌∙◌}
use Rattle.std.proofs.lemmas.Result.{err_from_is_err_and}
use Rattle.sequences.specs.Learn.{learn_gives}
use Rattle.sequences.proofs.learning.learn_in.Goals as goal

pub returns-in_err-may_learn : goal.returns-in_err-may_learn
unfolding learn_gives
returns-in_err-may_learn c =
    let p = err_from_is_err_and c.from_residual.result c.from_residual.ensures.1 in
    let says = c.in_err-may_learn.ensures.says in
    record { says = rw (p.1, p.2) says; gives = rw (← says) }

pub returns : goal.returns
unfolding learn_gives
returns c = record { says = c.gain.ensures.says ∙ c.in_ok-may_learn.ensures.says; gives = rw (← c.in_ok-may_learn.ensures.says) c.gain.ensures.gives }
