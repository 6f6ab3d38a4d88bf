-- The statements of specs/Statements.antt. That no refusal holds is that nothing is lost or unanswered, which is that the net passes;
-- the rest is read off the check's chain. Assumes nothing.
use mathlib.Core.Path.{◌≡◌, refl, sym, ap, ◌∙◌}
use mathlib.Core.List.{[], ◌∷◌}
use Rattle.net.specs.Refusals.{Says, accepted, name_unanswered}
use Rattle.net.specs.Common.{not_orderly}
use Rattle.net.specs.declared.Net.{Net}
use Rattle.net.proofs.OrderlyLaws.{facts_orderly}
use Rattle.net.proofs.SentenceLaws.{given_exactly, told-accepted}
use Rattle.net.proofs.UncountedLaws.{passes_over}
use Rattle.walks.specs.Arcs.{arcs}
use Rattle.walks.specs.Walk.{Passes}
use Rattle.walks.specs.Check.{activity_on_no_walk, unanswered_name, check_refusals, check_says}
use Rattle.walks.specs.Statements.{ArcTestRight, CheckListed, UnansweredExactly, NoneHoldsPasses, PassingAccepted, ArcsOnEitherSide, CheckPassesOver, WalksGrow}
use Rattle.walks.proofs.ArcLaws.{arc_facts}
use Rattle.walks.proofs.CheckLaws.{says_clear, passes_clear, check-listed, check-told, none_before_partners, said_passes}
use Rattle.walks.proofs.UncountedLaws.{check_says-uncounted}
use Rattle.walks.proofs.GrowLaws.{arcs_grow, walk_grows}

pub arc_test_right : ArcTestRight
arc_test_right = arc_facts

pub check-as_listed : CheckListed
check-as_listed = check-listed

pub unanswered_exactly : UnansweredExactly
unanswered_exactly net a =
    let l = (check-listed net).refused_exactly name_unanswered a in
    let g = given_exactly (not_orderly net ∷ activity_on_no_walk net ∷ []) (unanswered_name net) [] refl a in
    let n = none_before_partners net in (
      (λ e. let w = g.0 (l.0 e) in let o = n.0 w.0 in (o.0, o.1, w.1)),
      (λ w. l.1 (g.1 (n.1 (w.0, w.1), w.2))),
    )

-- what is said of a net that passes
pub passes-says : (net : Net) → Passes net → check_says net ≡ accepted (arcs net)
passes-says net p = let o = facts_orderly net p.is_orderly in says_clear net o (passes_clear net o p)

pub passing-accepted : PassingAccepted
passing-accepted net n = (
  (λ e. let p = said_passes net (ap (λ (s : Says). s.ok) e) in (p, ap (λ (s : Says). s.value) (sym e ∙ passes-says net p))),
  (λ w. passes-says net w.0 ∙ ap accepted (sym w.1)),
)

pub none_holds-passes : NoneHoldsPasses
none_holds-passes net =
    let t = told-accepted (check_refusals net) (arcs net) (check-told net) in
    ((λ none. said_passes net (ap (λ (s : Says). s.ok) (t.1 none))), (λ p. t.0 (passes-says net p)))

pub check-passes_over : CheckPassesOver
check-passes_over net other o q e = passes_over check_says check_says-uncounted net other o q e

pub arcs_on_either_side : ArcsOnEitherSide
arcs_on_either_side net s p q hp hq =
    let a = s.answered p q hp hq in (
      ((λ c. c.in_input), (λ n. record { in_input = n; in_output = a.0 n })),
      ((λ c. c.in_output), (λ n. record { in_input = a.1 n; in_output = n })),
    )

pub walks_grow : WalksGrow
walks_grow net other o c a b = (arcs_grow net other o c a b, (λ w. walk_grows net other o c w))
