-- `read_wide` meets its contract. The loop's invariant: what the field says is what the digits left say after the value so
-- far. Assumes nothing.
use Rattle.std.proofs.Common.{sym, arith}
use Rattle.text.proofs.DigitLaws.{number-start, number_ill_led}
use Rattle.text.proofs.decimal.read_wide.Goals as goal

pub returns-then-not-well_led : goal.returns-then-not-well_led
returns-then-not-well_led c = sym (number_ill_led _ _ (sym c.if-not-well_led.ensures))

pub loop-b-init : goal.loop-b-init
loop-b-init c = (omega arith, number-start _ _ (sym c.if-not-well_led.ensures))
