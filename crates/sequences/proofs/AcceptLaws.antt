-- Which sequences are accepted: every link of the chain passes exactly if its sentence doesn't hold, and together they say
-- well-formed, fitting and countable. Assumes nothing.
use Prim.Native.Nat.{ℕ, ◌+◌, ◌*◌, ◌/◌, ◌%◌, ◌≤◌, ◌<◌}
use mathlib.Core.Path.{◌≡◌}
use mathlib.Core.Bool.{true, beq}
use mathlib.Core.List.{List}
use mathlib.Core.Logic.{◌↔◌}
use native.Mathlib.Omega.{arith}
use borrow.Author.Tests.{eq-eqb, eqb-true, le-leb, leb-true}
use lib.Dec.{eqb, leb}
use lib.ListN.{length}
use Rattle.obligations.specs.Limits.{positions}
use Rattle.obligations.specs.State.{all_zero}
use Rattle.obligations.specs.Trace.{first_no_activity, shaped, Shaped}
use Rattle.obligations.specs.Sequence.{bindings, at, ψ, WellFormed, first_impossible}
use Rattle.obligations.specs.declared.sequence.Binding.{Binding}
use Rattle.obligations.proofs.BoolLaws.{and_left, and_right, and_both}
use Rattle.obligations.proofs.PositionLaws.{pass_first, first_pass}
use Rattle.obligations.proofs.TraceLaws.{agree_iff, shaped_facts, facts_shaped, activities_below, below_activities}
use Rattle.obligations.proofs.SequenceLaws.{none_impossible, zero_left}
use Rattle.net.specs.Orderly.{orderly}
use Rattle.net.specs.declared.Net.{Net}
use Rattle.net.proofs.OrderlyLaws.{orderly_facts, facts_orderly}
use Rattle.net.proofs.PutSideLaws.{placed_one}
use Rattle.net.proofs.ChainLaws.{unless-passes, none_passes}
use Rattle.sequences.specs.Limits.{words_within, within_limits}
use Rattle.sequences.specs.Gain.{Fits, fits, countable}
use Rattle.sequences.specs.Learn.{empty_agree, first_wrongly_empty, learn_positions, learn_says}
use Rattle.sequences.specs.Statements.{Learnable}
use Rattle.sequences.proofs.FitLaws.{Placed, fits_exactly}
use Rattle.sequences.proofs.CountLaws.{countable_exactly}

-- ---- refusal 9

-- X is empty or filled at a position as it has to be, and Y
abbrev Agree : List Binding → ℕ → Type 0
Agree s i = (((at s i).input ≡ 0) ↔ (i ≡ 0)) × (((at s i).output ≡ 0) ↔ (i + 1 ≡ length s))

pub agree_exactly : (s : List Binding) (i : ℕ) → (empty_agree s i ≡ true) ↔ Agree s i
unfolding empty_agree
agree_exactly s i =
    let x = beq (eqb (at s i).input 0) (eqb i 0) in
    let y = beq (eqb (at s i).output 0) (eqb (i + 1) (length s)) in
    let f = agree_iff (at s i).input 0 i 0 in
    let g = agree_iff (at s i).output 0 (i + 1) (length s) in
    ((λ t. (f.0 (and_left x y t), g.0 (and_right x y t))), (λ w. and_both (f.1 w.0) (g.1 w.1)))

-- X is empty at the first position only, and Y at the last only
pub record EmptyWhere (s : List Binding) : Type 0 where
  pub inputs : (i : ℕ) → i < length s → ((at s i).input ≡ 0) ↔ (i ≡ 0)
  pub outputs : (i : ℕ) → i < length s → ((at s i).output ≡ 0) ↔ (i + 1 ≡ length s)

pub empty_facts : (s : List Binding) → first_wrongly_empty s ≡ 0 → EmptyWhere s
unfolding first_wrongly_empty
empty_facts s e =
    let each = first_pass (length s) (empty_agree s) e in
    record { inputs = λ i l. ((agree_exactly s i).0 (each i l)).0; outputs = λ i l. ((agree_exactly s i).0 (each i l)).1 }

pub facts_empty : (s : List Binding) → EmptyWhere s → first_wrongly_empty s ≡ 0
unfolding first_wrongly_empty
facts_empty s f = pass_first (length s) (empty_agree s) (λ i l. (agree_exactly s i).1 (f.inputs i l, f.outputs i l))

-- ---- no set is misplaced in a sequence whose ends and empty sets are where they have to be

pub well_placed : (net : Net) (s : List Binding) → Shaped net.start net.end (length s) (λ i. (at s i).activity) → EmptyWhere s → Placed net s
well_placed net s h f i l = (
  placed_one net.start (at s i).activity (at s i).input ((λ e. (h.start_first_only i l).1 ((f.inputs i l).0 e)), (λ e. (f.inputs i l).1 ((h.start_first_only i l).0 e))),
  placed_one net.end (at s i).activity (at s i).output ((λ e. (h.end_last_only i l).1 ((f.outputs i l).0 e)), (λ e. (f.outputs i l).1 ((h.end_last_only i l).0 e))),
)

-- ---- a sequence's words

pub words-whole : (ws : List ℕ) → words_within ws ≡ true → (n : ℕ) × (length ws ≡ 3 * n) × (n ≤ positions)
unfolding words_within
words-whole ws e =
    let d = eqb-true (length ws % 3) 0 (and_left (eqb (length ws % 3) 0) (leb (length ws) (3 * positions)) e) in
    let m = leb-true (length ws) (3 * positions) (and_right (eqb (length ws % 3) 0) (leb (length ws) (3 * positions)) e) in
    (length ws / 3, omega arith, omega arith)

pub whole_words : (ws : List ℕ) (n : ℕ) → length ws ≡ 3 * n → n ≤ positions → words_within ws ≡ true
unfolding words_within
whole_words ws n e h = and_both (eq-eqb (length ws % 3) 0 (omega arith)) (le-leb (length ws) (3 * positions) (omega arith))

-- ---- what learn accepts

-- well-formed, by the tests of a chain
module _ (start end : ℕ) (s : List Binding) where
  pub tests_well_formed : first_no_activity (length s) (λ i. (at s i).activity) ≡ 0 → shaped start end (length s) (λ i. (at s i).activity) ≡ true → EmptyWhere s
      → first_impossible s ≡ 0 → all_zero (ψ s) ≡ true → WellFormed start end s
  tests_well_formed a h e p z = record {
    activities_only = activities_below (length s) (λ i. (at s i).activity) a;
    shape = shaped_facts start end (length s) (λ i. (at s i).activity) h;
    input_empty_first_only = e.inputs;
    output_empty_last_only = e.outputs;
    each_possible = (none_impossible s).0 p;
    nothing_left = (zero_left s).0 z;
  }

-- each test, from well-formed
module _ (start end : ℕ) (s : List Binding) (f : WellFormed start end s) where
  pub formed_activities : first_no_activity (length s) (λ i. (at s i).activity) ≡ 0
  formed_activities = below_activities (length s) (λ i. (at s i).activity) f.activities_only

  pub formed_shaped : shaped start end (length s) (λ i. (at s i).activity) ≡ true
  formed_shaped = facts_shaped start end (length s) (λ i. (at s i).activity) f.shape

  pub formed_empty : EmptyWhere s
  formed_empty = record { inputs = f.input_empty_first_only; outputs = f.output_empty_last_only }

  pub formed_possible : first_impossible s ≡ 0
  formed_possible = (none_impossible s).1 f.each_possible

  pub formed_zero : all_zero (ψ s) ≡ true
  formed_zero = (zero_left s).1 f.nothing_left

-- the test that a well-formed sequence fits
pub fits_formed : (net : Net) (s : List Binding) → orderly net ≡ true → WellFormed net.start net.end s → (fits net s ≡ true) ↔ Fits net s
fits_formed net s o f = fits_exactly net s o f.activities_only (well_placed net s f.shape (formed_empty net.start net.end s f))

module _ (net : Net) (ws : List ℕ) where
  pub accepted_learnable : (learn_says net ws).ok ≡ true → Learnable net ws
  unfolding learn_says within_limits learn_positions
  accepted_learnable e =
      let s = bindings ws in
      let c₂ = (unless-passes (orderly net) 2 _).0 e in
      let c₃ = (unless-passes (words_within ws) 3 _).0 c₂.1 in
      let c₄ = (none_passes (first_no_activity (length s) (λ i. (at s i).activity)) 4 _).0 c₃.1 in
      let c₇ = (unless-passes (shaped net.start net.end (length s) (λ i. (at s i).activity)) 7 _).0 c₄.1 in
      let c₉ = (none_passes (first_wrongly_empty s) 9 _).0 c₇.1 in
      let c₁₀ = (none_passes (first_impossible s) 10 _).0 c₉.1 in
      let c₁₁ = (unless-passes (all_zero (ψ s)) 11 _).0 c₁₀.1 in
      let c₁₂ = (unless-passes (fits net s) 12 _).0 c₁₁.1 in
      let c₂₁ = (unless-passes (countable net s) 21 _).0 c₁₂.1 in
      let n = words-whole ws c₃.0 in
      let f = tests_well_formed net.start net.end s c₄.0 c₇.0 (empty_facts s c₉.0) c₁₀.0 c₁₁.0 in
      record {
        net_orderly = orderly_facts net c₂.0;
        count = n.0;
        whole = n.1;
        few = n.2;
        well_formed = f;
        fitting = (fits_formed net s c₂.0 f).0 c₁₂.0;
        counting = (countable_exactly net s c₂.0 f.activities_only c₁₂.0).0 c₂₁.0;
      }

  pub learnable_accepted : Learnable net ws → (learn_says net ws).ok ≡ true
  unfolding learn_says within_limits learn_positions
  learnable_accepted l =
      let s = bindings ws in
      let f = l.well_formed in
      let o = facts_orderly net l.net_orderly in
      let fit = (fits_formed net s o f).1 l.fitting in
      rw (
        o,
        whole_words ws l.count l.whole l.few,
        formed_activities net.start net.end s f,
        formed_shaped net.start net.end s f,
        facts_empty s (formed_empty net.start net.end s f),
        formed_possible net.start net.end s f,
        formed_zero net.start net.end s f,
        fit,
        (countable_exactly net s o f.activities_only fit).1 l.counting,
      )
