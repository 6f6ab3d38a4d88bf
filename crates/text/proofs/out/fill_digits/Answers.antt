-- `fill_digits` meets its contract. The loop's invariant: the digits below i, stored, give the digits that are wanted; they are
-- stored from the last to the first. Assumes nothing.
use Rattle.std.proofs.Common.{◌∙◌, length, ◌-◌, ap, sym}
use Rattle.std.proofs.Math.ListN.{length-set}
use Rattle.text.specs.Decimal.{digit, last_digits}
use Rattle.text.proofs.DigitLaws.{length_last}
use Rattle.text.proofs.WriteLaws.{digit-step, sets_whole}
use Rattle.text.proofs.out.fill_digits.Goals as goal

pub loop-i-init : goal.loop-i-init
loop-i-init c = sets_whole c.args.digits.now _ (length_last (length c.args.digits.now) c.args.n)

pub loop-i-preserved : goal.loop-i-preserved
loop-i-preserved c =
    let l = c.loop-i in
    digit-step l.digits l.i l.rest c.loop-i-test.true ∙ l.invariant
    ∙ ap (λ k. last_digits k c.args.n) (sym (length-set l.digits (l.i - 1) (digit l.rest)))
