-- What judge accepts: the tests of its chain together say that the net passes and the sequence is valid. In an orderly net the
-- sides themselves say where a set may be empty. Assumes nothing.
use Prim.Native.Nat.{ℕ, ◌<◌}
use mathlib.Core.Path.{◌≡◌, subst}
use mathlib.Core.Bool.{true, ◌&&◌}
use mathlib.Core.List.{List}
use mathlib.Core.Logic.{◌↔◌}
use native.Mathlib.Decide.{ℕ_discrete as dec_eq}
use lib.ListN.{length}
use Rattle.obligations.specs.State.{all_zero}
use Rattle.obligations.specs.Trace.{first_no_activity, shaped, Shaped}
use Rattle.obligations.specs.Sequence.{bindings, at, ψ, first_impossible}
use Rattle.obligations.specs.declared.sequence.Binding.{Binding}
use Rattle.obligations.proofs.BoolLaws.{and_left, and_right, and_both, false-not-true}
use Rattle.obligations.proofs.PositionLaws.{pass_first, first_pass}
use Rattle.obligations.proofs.TraceLaws.{shaped_facts, activities_below}
use Rattle.net.specs.Lists.{listed}
use Rattle.net.specs.Sides.{OnSide, sets_on, empty_at}
use Rattle.net.specs.Orderly.{orderly, Orderly}
use Rattle.net.specs.declared.Net.{Net}
use Rattle.net.specs.declared.sides.Side.{Side}
use Rattle.net.specs.declared.sides.Side.TheVariants.{Input, Output}
use Rattle.net.proofs.ListLaws.{listed_one}
use Rattle.net.proofs.OrderlyLaws.{orderly_facts, facts_orderly}
use Rattle.net.proofs.ChainLaws.{unless-passes, none_passes}
use Rattle.walks.proofs.CheckLaws.{clear_passes, passes_clear, passing_passes}
use Rattle.sequences.specs.Limits.{words_within, within_limits}
use Rattle.sequences.specs.Judge.{on_side_at, first_missing, run_says, judge_positions, judge_says}
use Rattle.sequences.specs.Statements.{Judgeable}
use Rattle.sequences.proofs.AcceptLaws.{EmptyWhere, words-whole, whole_words, tests_well_formed, formed_activities, formed_shaped, formed_possible, formed_zero}

-- ---- refusal 8

-- each set is on its side
pub record AllOnSides (net : Net) (s : List Binding) : Type 0 where
  pub inputs : (i : ℕ) → i < length s → OnSide net Input (at s i).activity (at s i).input
  pub outputs : (i : ℕ) → i < length s → OnSide net Output (at s i).activity (at s i).output

missing_none : (net : Net) (s : List Binding) → first_missing net s ≡ 0 → AllOnSides net s
unfolding first_missing on_side_at
missing_none net s e =
    let each = first_pass (length s) (λ i. on_side_at net Input s i && on_side_at net Output s i) e in
    record { inputs = λ i l. and_left (on_side_at net Input s i) (on_side_at net Output s i) (each i l); outputs = λ i l. and_right (on_side_at net Input s i) (on_side_at net Output s i) (each i l) }

none_missing : (net : Net) (s : List Binding) → AllOnSides net s → first_missing net s ≡ 0
unfolding first_missing on_side_at
none_missing net s f = pass_first (length s) (λ i. on_side_at net Input s i && on_side_at net Output s i) (λ i l. and_both (f.inputs i l) (f.outputs i l))

-- ---- where a set on a side may be empty

empty_side : (net : Net) → Orderly net → (side : Side) (a m : ℕ) → a < 32 → OnSide net side a m → (m ≡ 0) ↔ (a ≡ empty_at net side)
empty_side net o side a m h k =
    let f = o.sides side a h in (
      (λ e. elim (dec_eq a (empty_at net side)) [ yes q ↦ q | no d ↦ absurd (false-not-true (f.never_empty d) (subst (λ (x : ℕ). listed x (sets_on net side a) ≡ true) e k)) ]),
      (λ q. listed_one m 0 (subst (λ (l : List ℕ). listed m l ≡ true) (f.just_empty q) k)),
    )

sides_empty : (net : Net) (s : List Binding) → Orderly net → ((i : ℕ) → i < length s → (at s i).activity < 32) → Shaped net.start net.end (length s) (λ i. (at s i).activity) → AllOnSides net s → EmptyWhere s
sides_empty net s o a h f = record {
  inputs = λ i l.
      let e = empty_side net o Input (at s i).activity (at s i).input (a i l) (f.inputs i l) in
      ((λ q. (h.start_first_only i l).0 (e.0 q)), (λ q. e.1 ((h.start_first_only i l).1 q)));
  outputs = λ i l.
      let e = empty_side net o Output (at s i).activity (at s i).output (a i l) (f.outputs i l) in
      ((λ q. (h.end_last_only i l).0 (e.0 q)), (λ q. e.1 ((h.end_last_only i l).1 q)));
}

-- ---- what judge accepts

module _ (net : Net) (ws : List ℕ) where
  pub accepted_judgeable : (judge_says net ws).ok ≡ true → Judgeable net ws
  unfolding judge_says within_limits judge_positions run_says
  accepted_judgeable e =
      let s = bindings ws in
      let c₂ = (unless-passes (orderly net) 2 _).0 e in
      let c₃ = (unless-passes (words_within ws) 3 _).0 c₂.1 in
      let c₄ = (none_passes (first_no_activity (length s) (λ i. (at s i).activity)) 4 _).0 c₃.1 in
      let c₆ = (passing_passes net _).0 c₄.1 in
      let c₇ = (unless-passes (shaped net.start net.end (length s) (λ i. (at s i).activity)) 7 _).0 c₆.1 in
      let c₈ = (none_passes (first_missing net s) 8 _).0 c₇.1 in
      let c₁₀ = (none_passes (first_impossible s) 10 _).0 c₈.1 in
      let c₁₁ = (unless-passes (all_zero (ψ s)) 11 _).0 c₁₀.1 in
      let n = words-whole ws c₃.0 in
      let o = orderly_facts net c₂.0 in
      let on = missing_none net s c₈.0 in
      let a = activities_below (length s) (λ i. (at s i).activity) c₄.0 in
      let em = sides_empty net s o a (shaped_facts net.start net.end (length s) (λ i. (at s i).activity) c₇.0) on in
      record {
        passes = clear_passes net c₂.0 c₆.0;
        count = n.0;
        whole = n.1;
        few = n.2;
        valid = record {
          well_formed = tests_well_formed net.start net.end s c₄.0 c₇.0 em c₁₀.0 c₁₁.0;
          inputs_on_side = on.inputs;
          outputs_on_side = on.outputs;
        };
      }

  pub judgeable_accepted : Judgeable net ws → (judge_says net ws).ok ≡ true
  unfolding judge_says within_limits judge_positions run_says
  judgeable_accepted l =
      let s = bindings ws in
      let f = l.valid.well_formed in
      let o = facts_orderly net l.passes.is_orderly in
      rw (
        o,
        whole_words ws l.count l.whole l.few,
        formed_activities net.start net.end s f,
        (passes_clear net o l.passes).0,
        (passes_clear net o l.passes).1,
        formed_shaped net.start net.end s f,
        none_missing net s (record { inputs = l.valid.inputs_on_side; outputs = l.valid.outputs_on_side }),
        formed_possible net.start net.end s f,
        formed_zero net.start net.end s f,
      )
