-- `number_width` meets its contract: one digit, two, or one more than the exponent of the power of ten below the number.
-- Assumes nothing.
use Rattle.std.proofs.Common.{arith, ap, sym, length}
use Rattle.text.proofs.DigitLaws.{one_digit, number-width}
use Rattle.text.proofs.decimal.number_width.Goals as goal

pub returns-then-n-lt10 : goal.returns-then-n-lt10
returns-then-n-lt10 c = ap length (sym (one_digit c.args.n c.if-n-lt10.true))

pub returns-then-n-lt100 : goal.returns-then-n-lt100
returns-then-n-lt100 c = number-width 1 c.args.n (omega arith) c.if-n-lt10.false c.if-n-lt100.true

pub returns : goal.returns
returns c = number-width c.ilog10.result c.args.n c.ilog10.ensures.bound c.ilog10.ensures.power_le c.ilog10.ensures.next_power_gt
