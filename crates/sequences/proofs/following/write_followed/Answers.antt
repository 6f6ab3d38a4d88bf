-- `write_followed` meets its contract. The loop's invariant: what is still to be written, written, gives what is to be given. Assumes nothing.
use Rattle.std.proofs.Common.{◌*◌, ◌+◌, ◌≡◌, arith, sym, ◌∙◌, drop_of_length-le}
use Rattle.obligations.proofs.SequenceLaws.{words_nil}
use Rattle.sequences.specs.Follow.{followed_from}
use Rattle.sequences.proofs.FollowLaws.{write_step}
use Rattle.sequences.proofs.following.write_followed.Goals as goal

pub loop-i-preserved : goal.loop-i-preserved
loop-i-preserved c =
    let l = c.loop-i in
    let t = c.args.trace.now in
    let step = write_step l.out (3 * l.i) l.previous t l.i c.loop-i-test.true in
    let e : 3 * (l.i + 1) ≡ 3 * l.i + 3 = omega arith in
    rw (e, c.write_binding.ensures, c.next_set.ensures, c.single-previous.ensures) (sym step ∙ l.invariant)

pub returns : goal.returns
unfolding followed_from
returns c =
    let e = drop_of_length-le c.args.trace.now {i = c.loop-i.i} c.loop-i-test.false in
    rw (e, words_nil) at c.loop-i.invariant
