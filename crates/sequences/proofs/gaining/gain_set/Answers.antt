-- `gain_set` meets its contract, by what `put_counted` answers, and a raise where the set is on its side. Assumes nothing.
use Rattle.std.proofs.Common.{◌≡◌, Bool, true, false, refl, ◌∙◌}
use mir.Val.{bool_byte}
use Rattle.obligations.specs.Tests.{indicator}
use Rattle.sequences.proofs.GainLaws.{raise_below, gained_set, gained_none}
use Rattle.sequences.proofs.gaining.gain_set.Goals as goal

as_number : (t : Bool) → bool_byte t ≡ indicator t
as_number true = refl
as_number false = refl

pub returns-in_default : goal.returns-in_default
returns-in_default c = gained_none c.args.sides.now c.args.empty c.args.a c.args.m c.in_default.field-0 c.put_counted.new.sides c.in_default.ensures

pub raise-topped-requires : goal.raise-topped-requires
raise-topped-requires c = raise_below c.args.sides.now c.args.empty c.args.a c.args.m c.in-Ok.placed c.put_counted.new.sides c.in-Ok.ensures c.requires.orderly c.requires.activity

pub returns : goal.returns
returns c =
    rw (c.from.ensures ∙ as_number c.in-Ok.placed.new, c.from-2.ensures ∙ as_number c.raise-topped.result)
    (gained_set c.args.sides.now c.args.empty c.args.a c.args.m c.in-Ok.placed c.put_counted.new.sides c.in-Ok.ensures (indicator c.raise-topped.result) c.raise-topped.new.counts c.raise-topped.ensures.tops c.raise-topped.ensures.counts_are)
