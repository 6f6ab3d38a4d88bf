-- `put_side` meets its contract: the tests in the order of the definition, and the masks and the lengths changed only after the last. Assumes nothing.
use native.Mathlib.Omega.{arith}
use Prim.Native.Nat.{◌<◌, ◌≤◌}
use mathlib.Core.Bool.{false}
use mathlib.Core.Path.{◌≡◌, sym, ◌∙◌}
use lib.ListN.{get_or}
use Rattle.net.specs.Limits.{sets}
use Rattle.net.specs.Lists.{listed}
use Rattle.net.specs.Sides.{sets_in}
use Rattle.net.specs.Put.{misplaced}
use Rattle.net.proofs.SideLaws.{side_at_most, sides_of_orderly}
use Rattle.net.proofs.PutSideLaws.{place_in_side, stands_at_place}
use Rattle.net.proofs.PlacedLaws.{done_misplaced, done_present, done_full, done_new, grown-there}
use Rattle.net.proofs.putting.put_side.Goals as goal

pub returns-then-is_misplaced : goal.returns-then-is_misplaced
returns-then-is_misplaced c =
    let s = c.args in
    done_misplaced s.sides.now s.empty s.a s.m (sym c.is_misplaced.ensures ∙ c.if-is_misplaced.true)

pub side_end-to-requires : goal.side_end-to-requires
side_end-to-requires c =
    let at_most : let s = c.args in get_or s.sides.now.lengths s.a 0 ≤ sets =
    let s = c.args in side_at_most s.sides.now s.empty c.requires.orderly s.a c.requires.activity in
    (c.requires.activity, at_most)

pub place_on-at-requires : goal.place_on-at-requires
place_on-at-requires c =
    let s = c.args in
    (sides_of_orderly s.sides.now s.empty c.requires.orderly, c.requires.activity)

pub stands_at-requires : goal.stands_at-requires
stands_at-requires c =
    let at_most : let s = c.args in get_or s.sides.now.lengths s.a 0 ≤ sets =
    let s = c.args in side_at_most s.sides.now s.empty c.requires.orderly s.a c.requires.activity in
    omega (arith, c.side_end-to.ensures, at_most, c.requires.orderly.masks_long, c.requires.activity)

pub returns-then-stands_at : goal.returns-then-stands_at
returns-then-stands_at c =
    let placed : let s = c.args in misplaced s.empty s.a s.m ≡ false =
    sym c.is_misplaced.ensures ∙ c.if-is_misplaced.false in
    let there : let s = c.args in c.stands_at.result ≡ listed s.m (sets_in s.sides.now s.a) =
    let s = c.args in
    c.stands_at.ensures ∙ stands_at_place s.sides.now s.empty s.a s.m c.requires.orderly c.requires.activity _ _ c.place_on-at.ensures c.side_end-to.ensures in
    let s = c.args in
    done_present s.sides.now s.empty s.a s.m placed (sym there ∙ c.if-stands_at.true) _ c.place_on-at.ensures

pub returns-then-n-eq-SETS : goal.returns-then-n-eq-SETS
returns-then-n-eq-SETS c =
    let placed : let s = c.args in misplaced s.empty s.a s.m ≡ false =
    sym c.is_misplaced.ensures ∙ c.if-is_misplaced.false in
    let there : let s = c.args in c.stands_at.result ≡ listed s.m (sets_in s.sides.now s.a) =
    let s = c.args in
    c.stands_at.ensures ∙ stands_at_place s.sides.now s.empty s.a s.m c.requires.orderly c.requires.activity _ _ c.place_on-at.ensures c.side_end-to.ensures in
    let s = c.args in
    done_full s.sides.now s.empty s.a s.m placed (sym there ∙ c.if-stands_at.false) c.if-n-eq-SETS.true

pub insert_at-requires : goal.insert_at-requires
insert_at-requires c =
    let at_most : let s = c.args in get_or s.sides.now.lengths s.a 0 ≤ sets =
    let s = c.args in side_at_most s.sides.now s.empty c.requires.orderly s.a c.requires.activity in
    let room : let s = c.args in get_or s.sides.now.lengths s.a 0 < sets =
    let n = c.if-n-eq-SETS.false in omega (arith, at_most) in
    let s = c.args in (
      omega (arith, c.place_on-at.ensures, c.side_end-to.ensures, place_in_side s.sides.now s.empty s.a s.m c.requires.orderly c.requires.activity),
      omega (arith, c.side_end-to.ensures, room, c.requires.orderly.masks_long, c.requires.activity),
    )

pub returns : goal.returns
returns c =
    let placed : let s = c.args in misplaced s.empty s.a s.m ≡ false =
    sym c.is_misplaced.ensures ∙ c.if-is_misplaced.false in
    let there : let s = c.args in c.stands_at.result ≡ listed s.m (sets_in s.sides.now s.a) =
    let s = c.args in
    c.stands_at.ensures ∙ stands_at_place s.sides.now s.empty s.a s.m c.requires.orderly c.requires.activity _ _ c.place_on-at.ensures c.side_end-to.ensures in
    let at_most : let s = c.args in get_or s.sides.now.lengths s.a 0 ≤ sets =
    let s = c.args in side_at_most s.sides.now s.empty c.requires.orderly s.a c.requires.activity in
    let room : let s = c.args in get_or s.sides.now.lengths s.a 0 < sets =
    let n = c.if-n-eq-SETS.false in omega (arith, at_most) in
    let s = c.args in
    done_new s.sides.now s.empty s.a s.m placed (sym there ∙ c.if-stands_at.false) c.if-n-eq-SETS.false _ c.place_on-at.ensures _
    (c.insert_at.ensures ∙ grown-there s.sides.now s.empty s.a s.m c.requires.orderly c.requires.activity _ _ c.place_on-at.ensures c.side_end-to.ensures room)
