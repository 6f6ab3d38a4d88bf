-- `ascends` meets its contract: an element that isn't below the next decides, or else the first element. Assumes nothing.
use Rattle.std.proofs.Common.{◌≡◌, sym, ◌∙◌, rules, not, eqb, ltb, Some}
use Rattle.std.specs.List.{slice_get}
use Rattle.std.specs.Option.{option_eq}
use Rattle.std.proofs.lemmas.List.Sorted.{answers_always}
use borrow.Author.Tests.{ltb-true}
use Rattle.net.proofs.ListLaws.{ascends-first, ascends_fails}
use Rattle.net.proofs.lists.ascends.Goals as goal

pub returns-then-is_sorted_by : goal.returns-then-is_sorted_by
returns-then-is_sorted_by c =
    let l = c.args.list.now in
    let a = c.if-is_sorted_by.ensures.cases ltb (answers_always _ _ _ (λ f a r f' h. search rules)) in
    let e : c.ne.result ≡ not (option_eq eqb (slice_get l 0) (Some 0)) = search rules in
    e ∙ ascends-first l (λ i k. ltb-true _ _ (sym (a i 0 k)))

pub returns-else-is_sorted_by : goal.returns-else-is_sorted_by
returns-else-is_sorted_by c =
    let a = c.if-is_sorted_by.ensures.cases ltb (answers_always _ _ _ (λ f a r f' h. search rules)) in
    c.if-is_sorted_by.false ∙ sym (ascends_fails c.args.list.now a.0 a.1 (sym (a.2 0)))
