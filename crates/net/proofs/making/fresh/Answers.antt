-- `fresh` meets its contract: by cases on the test of the ends. Assumes nothing.
use mathlib.Core.Path.{sym}
use Rattle.net.specs.Fresh.{fresh_says, fresh_gives}
use Rattle.net.proofs.OrderlyLaws.{ends_facts}
use Rattle.net.proofs.making.fresh.Goals as goal

pub returns-then-not-ends_ok : goal.returns-then-not-ends_ok
unfolding fresh_says fresh_gives
returns-then-not-ends_ok c =
    let e = c.if-not-ends_ok.ensures in
    record { says = rw (c.at.ensures, ← e); gives = rw (← e) c.fresh_net.ensures }

pub fresh_net-requires-2 : goal.fresh_net-requires-2
fresh_net-requires-2 c =
    let f = ends_facts c.args.start c.args.end (sym c.if-not-ends_ok.ensures) in
    (f.0, f.1)

pub returns : goal.returns
unfolding fresh_says fresh_gives
returns c =
    let e = c.if-not-ends_ok.ensures in
    record { says = rw (← e); gives = rw (← e) c.fresh_net-2.ensures }
