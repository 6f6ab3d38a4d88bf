-- `kind_ok` meets its contract: the counts are tested where the sides passed, so that none has more than 16 sets; how long the
-- arrays are is known of every record. Assumes nothing.
use Rattle.std.proofs.Common.{◌≡◌, length, rules}
use mathlib.Core.Path.{sym}
use Rattle.obligations.specs.Limits.{activities}
use Rattle.net.specs.Limits.{places}
use Rattle.net.specs.Orderly.{kind_ok}
use Rattle.net.proofs.SideLaws.{sides_of_orderly}
use Rattle.net.proofs.OrderlyLaws.{sides_long}
use Rattle.net.proofs.orderly.kind_ok.Goals as goal

pub counts_ok-requires : goal.counts_ok-requires
counts_ok-requires c =
    let m : length c.args.sides.now.masks ≡ places = search rules in
    let l : length c.args.sides.now.lengths ≡ activities = search rules in
    sides_of_orderly _ c.args.empty (record { masks_long = m; lengths_long = l; all_ok = sym c.if-sides_ok.ensures })

pub returns-then-sides_ok : goal.returns-then-sides_ok
unfolding kind_ok
returns-then-sides_ok c =
    let s = c.args.sides.now in
    let m : length s.masks ≡ places = search rules in
    let l : length s.lengths ≡ activities = search rules in
    let n : length s.counts ≡ places = search rules in
    record { value = rw (← c.if-sides_ok.ensures) c.counts_ok.ensures; sized = sides_long s m l n }

pub returns-else-sides_ok : goal.returns-else-sides_ok
unfolding kind_ok
returns-else-sides_ok c =
    let s = c.args.sides.now in
    let m : length s.masks ≡ places = search rules in
    let l : length s.lengths ≡ activities = search rules in
    let n : length s.counts ≡ places = search rules in
    record { value = rw (← c.if-sides_ok.ensures) c.if-sides_ok.false; sized = sides_long s m l n }
