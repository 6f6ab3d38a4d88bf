-- `place_on` meets its contract: the part that is searched is the side. Assumes nothing.
use Rattle.std.proofs.Common.{◌≡◌, arith}
use Rattle.net.specs.Lists.{place_in}
use Rattle.net.specs.Sides.{sets_in}
use Rattle.net.proofs.InsertLaws.{place-within}
use Rattle.net.proofs.SideLaws.{length-first}
use Rattle.net.proofs.putting.place_on.Goals as goal

pub overflow_add-result : goal.overflow_add-result
overflow_add-result c =
    let s = c.args.sides.now in
    let k = sets_in s c.args.a in
    let fits = c.requires.0 in
    let placed : c.place_in.result ≡ place_in c.args.m k = rw c.sets.ensures at c.place_in.ensures in
    let at_most = fits.at_most c.args.a c.requires.1 in
    omega (arith, placed, place-within c.args.m k, length-first s.masks c.args.a _ fits.masks_long c.requires.1 at_most, at_most, c.requires.1)
