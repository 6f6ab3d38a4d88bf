-- `put_counted` meets its contract: where the set is new its place is opened in the counts too. Assumes nothing.
use Rattle.std.proofs.Common.{◌≡◌, length, rules, arith}
use Rattle.std.proofs.lemmas.Result.{err_from_is_err_and}
use mathlib.Core.Path.{ap}
use Rattle.net.specs.Limits.{places}
use Rattle.net.proofs.SideLaws.{side_at_most}
use Rattle.net.proofs.PlacedLaws.{room_there, counted_new, counted_present, counted_refused}
use Rattle.net.proofs.putting.put_counted.Goals as goal

pub side_end-to-requires : goal.side_end-to-requires
side_end-to-requires c =
    let s = c.args.sides.now in
    (c.requires.activity, side_at_most s c.args.empty c.requires.orderly c.args.a c.requires.activity)

pub returns-in_err-placed : goal.returns-in_err-placed
returns-in_err-placed c =
    let p = err_from_is_err_and c.from_residual.result c.from_residual.ensures.1 in
    rw (p.1, p.2) (counted_refused _ _ _ _ _ _ c.in_err-placed.ensures)

pub insert_at-requires : goal.insert_at-requires
insert_at-requires c =
    let s = c.args.sides.now in
    let long : length s.counts ≡ places = search rules in
    let f = room_there s c.args.empty c.args.a c.args.m c.requires.orderly c.requires.activity _ _ c.in_ok-placed.ensures _ c.if-placed.true c.side_end-to.ensures in
    (f.0, omega (arith, f.1, long, ap length c.put_side.ensures.counts_stay))

pub returns-then-placed : goal.returns-then-placed
returns-then-placed c =
    let s = c.args.sides.now in
    let long : length s.counts ≡ places = search rules in
    counted_new s c.args.empty c.args.a c.args.m c.requires.orderly c.requires.activity _ _ c.in_ok-placed.ensures _ c.if-placed.true c.side_end-to.ensures long _ c.insert_at.ensures

pub returns-else-placed : goal.returns-else-placed
returns-else-placed c =
    counted_present _ _ _ _ _ _ c.in_ok-placed.ensures c.if-placed.false
