-- `is_orderly` meets its contract: the tests in the order of the definition; that the arrays are as long as they have to be is
-- known of every record. Assumes nothing.
use mathlib.Core.Path.{sym}
use Rattle.net.proofs.OrderlyLaws.{sized_orderly, bad_ends, bad_inputs}
use Rattle.net.proofs.orderly.is_orderly.Goals as goal

pub returns-then-not-ends_ok : goal.returns-then-not-ends_ok
returns-then-not-ends_ok c = sym (bad_ends c.args.net.now (sym c.if-not-ends_ok.ensures))

pub returns-then-kind_ok : goal.returns-then-kind_ok
returns-then-kind_ok c =
    let i = c.if-kind_ok.ensures in
    let o = c.kind_ok-then-kind_ok.ensures in
    rw (sized_orderly c.args.net.now i.sized o.sized, ← c.if-not-ends_ok.ensures, ← i.value) o.value

pub returns-else-kind_ok : goal.returns-else-kind_ok
returns-else-kind_ok c = rw (bad_inputs c.args.net.now (sym c.if-not-ends_ok.ensures) (sym c.if-kind_ok.ensures.value)) c.if-kind_ok.false
