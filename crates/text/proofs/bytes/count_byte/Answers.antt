-- `count_byte` meets its contract: a byte counts 1 if it is c, and there are no more than the slice has bytes. Assumes nothing.
use Rattle.std.proofs.Common.{rules, tests, arith, ◌<◌, ◌^◌, sum_by, ℕ, eqb, ◌∙◌}
use Rattle.std.proofs.lemmas.Iterator.{YieldsList-from_slice, YieldsList-from_map}
use Rattle.std.proofs.lemmas.Iterator.Consumers.{sum_by_from_yields_List, fits_by_from_yields_list}
use Rattle.obligations.specs.Tests.{indicator}
use Rattle.text.proofs.ByteLaws.{occurrences_sum, occurrences_le}
use Rattle.text.proofs.bytes.count_byte.Goals as goal

pub sum-requires-clause-fits : goal.sum-requires-clause-fits
sum-requires-clause-fits c =
    let s = c.args.s.now in
    let h : ℕ → ℕ = λ b. indicator (eqb b c.args.c) in
    let fit : sum_by h s < 2 ^ 64 = omega (arith, occurrences_sum c.args.c s, occurrences_le c.args.c s, c.iter.ensures.bound) in
    fits_by_from_yields_list h s c.map.result _ (YieldsList-from_map _ h (YieldsList-from_slice s (cc)) c.map.ensures.closure (λ x r q k. search (rules, tests))) fit

pub returns : goal.returns
returns c =
    let s = c.args.s.now in
    let h : ℕ → ℕ = λ b. indicator (eqb b c.args.c) in
    sum_by_from_yields_List h s c.map.result c.sum.result c.sum.ensures.ran (YieldsList-from_map _ h (YieldsList-from_slice s (cc)) c.map.ensures.closure (λ x r q k. search (rules, tests)))
    ∙ occurrences_sum c.args.c s
