use Rattle.std.proofs.Common.{◌≡◌, length}
use Rattle.std.proofs.Math.Seq.{sets}
use Rattle.text.specs.Decimal.{last_digits}
use Rattle.text.proofs.out.fill_digits.Given as goal

abbrev pub invariant-loop-i : goal.invariant-loop-i
invariant-loop-i l = sets l.digits 0 (last_digits l.i l.rest) ≡ last_digits (length l.digits) l.n
