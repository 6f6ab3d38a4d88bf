-- `put_in` meets its contract: the tests of the net and the activity, and then what is done to the side is what put does. Assumes
-- nothing.
use Rattle.std.proofs.Common.{refl}
use Rattle.std.proofs.lemmas.Result.{err_from_is_err_and}
use borrow.Author.Tests.{le-ltb}
use mathlib.Core.Path.{sym}
use Rattle.net.specs.Put.{put_says, put_gives, grows}
use Rattle.net.proofs.OrderlyLaws.{orderly_sides}
use Rattle.net.proofs.PutLaws.{put_done}
use Rattle.net.proofs.putting.put_in.Goals as goal

pub returns-then-not-is_orderly : goal.returns-then-not-is_orderly
unfolding put_says put_gives grows
returns-then-not-is_orderly c =
    let e = c.if-not-is_orderly.ensures in
    record { says = rw (c.at.ensures, ← e); gives = rw (← e) }

pub returns-then-a-ge-ACTIVITIES : goal.returns-then-a-ge-ACTIVITIES
unfolding put_says put_gives grows
returns-then-a-ge-ACTIVITIES c =
    let e = c.if-not-is_orderly.ensures in
    let f = le-ltb _ _ c.if-a-ge-ACTIVITIES.true in
    record { says = rw (c.at-then-a-ge-ACTIVITIES.ensures, ← e, f); gives = rw (← e, f) }

pub put_counted-requires-clause-orderly : goal.put_counted-requires-clause-orderly
put_counted-requires-clause-orderly c =
    rw (c.sides_mut.ensures.value, c.empty_at-empty.ensures) (orderly_sides c.args.net.now (sym c.if-not-is_orderly.ensures) c.args.side)

pub returns-in_err-placed : goal.returns-in_err-placed
returns-in_err-placed c =
    let p = err_from_is_err_and c.from_residual.result c.from_residual.ensures.1 in
    rw p.1
    (put_done c.args.net.now c.args.side c.args.a c.args.m _ _ _ (sym c.if-not-is_orderly.ensures) c.if-a-ge-ACTIVITIES.false (rw p.2) (rw (c.sides_mut.ensures.value, c.empty_at-empty.ensures) at c.in_err-placed.ensures))

pub returns : goal.returns
returns c =
    put_done c.args.net.now c.args.side c.args.a c.args.m _ _ _ (sym c.if-not-is_orderly.ensures) c.if-a-ge-ACTIVITIES.false refl (rw (c.sides_mut.ensures.value, c.empty_at-empty.ensures) at c.in_ok-placed.ensures)
