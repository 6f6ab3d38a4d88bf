-- `fill_trace` meets its contract. The loop's invariant: the entries left, stored, give the buffer with the trace at its front.
-- Assumes nothing.
use Rattle.std.proofs.Common.{◌≡◌, refl, sym, ◌∙◌}
use Rattle.text.specs.Decimal.{value}
use Rattle.text.proofs.DecimalLaws.{number-value}
use Rattle.text.specs.Fields.{space, split}
use Rattle.text.specs.Reading.{fields_left}
use Rattle.logfile.proofs.EntryLaws.{entries_none, entries_some, filled_none, filling_start, filling_value, filling_room, filling_more, filling_end}
use Rattle.logfile.proofs.line.fill_trace.Goals as goal

pub returns-then-is_empty : goal.returns-then-is_empty
returns-then-is_empty c = filled_none c.args.trace.now c.args.out.now (entries_none c.args.trace.now c.if-is_empty.ensures)

pub loop-k-init : goal.loop-k-init
loop-k-init c =
    let t = c.args.trace.now in
    let i = c.into_iter-k-iterator in
    let e = c.enumerate-k-items.ensures in
    filling_start t c.args.out.now i.result.count (fields_left i.result.iter) c.requires (entries_some t c.if-is_empty.ensures) (rw (i.ensures.into_iter_gives, e.source) c.split.ensures) (rw i.ensures.into_iter_gives e.count)

pub unwrap-requires : goal.unwrap-requires
unwrap-requires c =
    let l = c.loop-k in
    rw (c.read_number.ensures, filling_value c.args.out.now (split space c.args.trace.now) l.k-iterator.count (fields_left l.k-iterator.iter) l.out l.invariant c.in-Some.entry.now (fields_left c.next.new.self.iter) c.in-Some.ensures.steps.0) refl

pub bounds-out-k : goal.bounds-out-k
bounds-out-k c =
    let l = c.loop-k in
    rw c.in-Some.ensures.steps.1 (filling_room c.args.out.now (split space c.args.trace.now) l.k-iterator.count (fields_left l.k-iterator.iter) l.out l.invariant c.in-Some.entry.now (fields_left c.next.new.self.iter) c.in-Some.ensures.steps.0)

pub loop-k-preserved : goal.loop-k-preserved
loop-k-preserved c =
    let l = c.loop-k in
    let steps = c.in-Some.ensures.steps in
    let value-is : c.unwrap.result ≡ value c.in-Some.entry.now = sym (number-value 31 c.in-Some.entry.now c.unwrap.result (sym c.read_number.ensures ∙ c.unwrap.ensures)).1 in
    rw steps.1 (filling_more c.args.out.now (split space c.args.trace.now) l.k-iterator.count (fields_left l.k-iterator.iter) l.out l.invariant c.in-Some.entry.now (fields_left c.next.new.self.iter) steps.0 c.unwrap.result c.next.new.self.count value-is steps.2)

pub returns : goal.returns
returns c =
    let t = c.args.trace.now in
    let l = c.loop-k in
    rw (entries_some t c.if-is_empty.ensures) (filling_end c.args.out.now (split space t) l.k-iterator.count (fields_left l.k-iterator.iter) l.out l.invariant c.in-None.ensures.steps.0.0)
