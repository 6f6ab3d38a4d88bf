-- `is_shaped` meets its contract: `all` asks of each position what the definition asks. Assumes nothing.
use Rattle.std.proofs.Common.{rules, tests, arith, get_or, ◌*◌, refl, ◌∙◌, sym}
use Rattle.std.proofs.lemmas.Iterator.{serves_from_Range, YieldsList-from_range}
use Rattle.std.proofs.lemmas.Iterator.Search.{all_from_yields_List}
use borrow.Author.Tests.{lt-leb}
use Rattle.obligations.specs.Trace.{ends_agree}
use Rattle.obligations.proofs.TraceLaws.{too_short, all_agree}
use Rattle.obligations.proofs.trace.is_shaped.Goals as goal

pub all-requires-clause-callable : goal.all-requires-clause-callable
all-requires-clause-callable c = serves_from_Range (λ x q w. search (rules, tests)) (λ x l h. search (rules, tests))

pub returns-then-n-ge2 : goal.returns-then-n-ge2
unfolding ends_agree
returns-then-n-ge2 c =
    let a = c.args in
    all_from_yields_List (ends_agree a.start a.end a.n (λ i. get_or a.words.now (a.stride * i) 0)) _ _ c.all.result c.all.ensures.ran
    (YieldsList-from_range 0 a.n a.n refl (omega arith)) (λ x b q h. search (rules, tests))
    ∙ all_agree _ _ a.n _ c.if-n-ge2.true

pub returns-else-n-ge2 : goal.returns-else-n-ge2
returns-else-n-ge2 c = lt-leb 2 _ c.if-n-ge2.false ∙ sym (too_short _ _ _ _ c.if-n-ge2.false)
