-- `count_entries` meets its contract: each turn reads an entry and counts it. Assumes nothing.
use Rattle.std.proofs.Common.{rules, tests, arith, sym, refl, ◌∙◌, ◌≡◌, ◌+◌, ◌<◌, ◌^◌, option_map}
use Rattle.std.proofs.lemmas.Iterator.Consumers.{YieldsList-from_first}
use Rattle.std.proofs.lemmas.Iterator.Adapters.{serves_from_total}
use Rattle.text.specs.Decimal.{parse_number}
use Rattle.text.specs.Members.{highest}
use Rattle.text.specs.Fields.{space, split}
use Rattle.text.specs.Reading.{fields_left}
use Rattle.logfile.specs.Row.{count_entries}
use Rattle.logfile.proofs.EntryLaws.{entries_none, entries_some, count_none, few_fields}
use Rattle.logfile.proofs.CountLaws.{counts, more_read, ones}
use Rattle.logfile.proofs.line.count_entries.Goals as goal

pub returns-then-is_empty : goal.returns-then-is_empty
returns-then-is_empty c = count_none c.args.trace.now (entries_none c.args.trace.now c.if-is_empty.ensures)

pub try_fold-requires-clause-callable : goal.try_fold-requires-clause-callable
try_fold-requires-clause-callable c =
    serves_from_total (YieldsList-from_first (λ x. x.now) fields_left (split space c.args.trace.now) c.split.ensures) (λ _. 1)
    (λ n x q k.
    let v : k.0 ≡ option_map (λ _. n + 1) (parse_number highest x.now) = search (rules, tests) in
    (refl, omega (arith, (more_read n q.1 (parse_number highest x.now) (sym k.2 ∙ v)).2)))
    (λ n x h. let few : n + 1 < 2 ^ 64 = omega (arith, h, ones (split space c.args.trace.now), few_fields c.args.trace.now) in search (rules, tests))

pub returns : goal.returns
unfolding count_entries
returns c =
    counts _ fields_left _ (split space c.args.trace.now) (λ f n x r q k. search (rules, tests)) c.split.result c.try_fold.new.self _ c.try_fold.result c.split.ensures c.try_fold.ensures.ran
    ∙ rw (entries_some c.args.trace.now c.if-is_empty.ensures) refl
