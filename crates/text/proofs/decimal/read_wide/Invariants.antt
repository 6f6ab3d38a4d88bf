use Rattle.std.proofs.Common.{◌≡◌, ◌≤◌, drop}
use Rattle.text.specs.Decimal.{parse_number}
use Rattle.text.proofs.DigitLaws.{digits}
use Rattle.text.proofs.decimal.read_wide.Given as goal

abbrev pub invariant-loop-b : goal.invariant-loop-b
invariant-loop-b l = (l.v ≤ l.limit) × (parse_number l.limit l.field ≡ digits l.limit l.v (drop l.b-index l.field))
