-- `read_number` meets its contract: what is within a limit of 32 bits has 32 bits, so that its conversion gives it. Assumes nothing.
use Rattle.std.proofs.Common.{◌<◌, ◌^◌, sym, arith, rules, tests}
use Rattle.text.proofs.DecimalLaws.{parse_most}
use Rattle.text.proofs.decimal.read_number.Goals as goal

pub returns : goal.returns
returns c =
    let few : c.in_ok-read_wide.field-0 < 2 ^ 32 = omega (arith, parse_most c.from.result c.args.field.now c.in_ok-read_wide.field-0 (sym c.in_ok-read_wide.ensures)) in
    search (rules, tests)
