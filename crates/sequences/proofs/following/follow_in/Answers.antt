-- `follow_in` meets its contract: the words written are those of the sequence, so gaining them is gaining it. Assumes nothing.
use Rattle.std.proofs.Common.{◌≡◌, ◌*◌, ℕ, List, arith, ap, subst, ◌∙◌, length, take, replicate}
use Rattle.std.proofs.lemmas.List.Edits.{sets}
use Rattle.std.proofs.lemmas.Result.{err_from_is_err_and}
use Rattle.obligations.specs.Limits.{positions}
use Rattle.obligations.specs.Sequence.{bindings, words}
use Rattle.obligations.specs.declared.sequence.Binding.{Binding}
use Rattle.obligations.proofs.SequenceLaws.{bindings-words}
use Rattle.sequences.specs.Inner.{TraceWithinLimits, GainLeft}
use Rattle.sequences.specs.Follow.{followed, follow_gives}
use Rattle.sequences.proofs.FollowLaws.{length-followed, front_words, followed-within}
use Rattle.sequences.proofs.following.follow_in.Goals as goal

-- the front of the buffer that was written
front : (t out : List ℕ) → TraceWithinLimits t → out ≡ sets (replicate (3 * positions) 0) 0 (words (followed t)) → take (3 * length t) out ≡ words (followed t)
front t out p e = ap (take (3 * length t)) e ∙ front_words (replicate (3 * positions) 0) (followed t) (length t) (length-followed 0 t) (omega (arith, p.few))

pub returns-in_err-may_follow : goal.returns-in_err-may_follow
unfolding follow_gives
returns-in_err-may_follow c =
    let p = err_from_is_err_and c.from_residual.result c.from_residual.ensures.1 in
    let says = c.in_err-may_follow.ensures.says in
    record { says = rw (p.1, p.2) says; gives = rw (← says) }

pub gain-requires-clause-within_limits : goal.gain-requires-clause-within_limits
gain-requires-clause-within_limits c =
    let t = c.args.trace.now in
    let p = c.in_ok-may_follow.ensures.within_limits in
    rw (front t _ p c.write_followed.ensures) (followed-within t p)

pub returns : goal.returns
unfolding follow_gives
returns c =
    let t = c.args.trace.now in
    let m = c.in_ok-may_follow.ensures in
    let e = ap bindings (front t _ m.within_limits c.write_followed.ensures) ∙ bindings-words (followed t) in
    let g = subst (λ (s : List Binding). GainLeft c.args.net.now s c.gain.result c.gain.new.net) e c.gain.ensures in
    record { says = g.says ∙ m.says; gives = rw (← m.says) g.gives }
