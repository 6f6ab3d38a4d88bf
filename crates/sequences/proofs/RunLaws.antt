-- The loop that runs a sequence: what holds after i positions, one position more, and its three ways out. The state is ψ of
-- the positions passed, and the total is what the last step reported of it. Assumes nothing.
use Prim.Native.Nat.{ℕ, suc, ◌+◌, ◌≤◌, ◌<◌, max}
use mathlib.Core.Path.{◌≡◌, refl, sym, ap, subst, ◌∙◌}
use mathlib.Core.Bool.{Bool, true, false, cond}
use mathlib.Core.List.{List, [], ◌∷◌}
use mathlib.Core.Logic.{⊎_elim}
use native.Mathlib.Numerals.{add-one}
use native.Mathlib.Omega.{arith}
use borrow.Author.Tests.{ne_eqb}
use lib.Dec.{eqb}
use lib.ListN.{length, take, drop, length-take}
use lib.Seq.{take_all}
use Rattle.std.proofs.Common.{Some, None}
use Rattle.obligations.specs.Limits.{positions}
use Rattle.obligations.specs.State.{nothing, possible, all_zero, total, State, most_due, step_says, step_gives}
use Rattle.obligations.specs.Sequence.{at, ψ, possible_at, first_impossible}
use Rattle.obligations.specs.declared.sequence.Binding.{Binding}
use Rattle.obligations.proofs.StateLaws.{nothing-zero}
use Rattle.obligations.proofs.TotalLaws.{total-zero, zero-total}
use Rattle.obligations.proofs.StepLaws.{gives_possible, total_said, impossible_said}
use Rattle.obligations.proofs.ListLaws.{drop_head, drop_end}
use Rattle.obligations.proofs.PositionLaws.{AllPass}
use Rattle.obligations.proofs.TraceLaws.{pass_more}
use Rattle.obligations.proofs.SequenceLaws.{fired, run_nil, ψ-next, ψ_in_bytes, possible_test, pass_impossible, fails_impossible}
use Rattle.obligations.proofs.BoolLaws.{true_or_false, false-not-true}
use Rattle.net.specs.Refusals.{Says, accepted, refused, not_possible, left_over}
use Rattle.net.specs.Chains.{unless, none_at}
use Rattle.sequences.specs.Run.{largest_total}
use Rattle.sequences.specs.Judge.{run_says}

-- ---- what is said

-- the links of refusals 10 and 11 in a chain that goes on behind them
abbrev pub ran : List Binding → Says → Says
ran s rest = none_at (first_impossible s) not_possible (unless (all_zero (ψ s)) left_over rest)

module _ (s : List Binding) (rest : Says) where
  -- where a run gives a peak, both pass
  pub ran_accepted : (peak : ℕ) → accepted peak ≡ run_says s → ran s rest ≡ rest
  unfolding run_says
  ran_accepted peak e = go (eqb (first_impossible s) 0) (all_zero (ψ s)) (first_impossible s) (largest_total nothing s) e
    where
      go : (t u : Bool) (f k : ℕ) → accepted peak ≡ cond t (cond u (accepted k) (refused 11 0)) (refused 10 f) → cond t (cond u rest (refused 11 0)) (refused 10 f) ≡ rest
      go true true f k q = refl
      go true false f k q = absurd (false-not-true (ap (λ (s : Says). s.ok) q) refl)
      go false u f k q = absurd (false-not-true (ap (λ (s : Says). s.ok) q) refl)

  -- and where it refuses, so does the chain
  pub ran_refused : (n p : ℕ) → refused n p ≡ run_says s → refused n p ≡ ran s rest
  unfolding run_says
  ran_refused n p e = go (eqb (first_impossible s) 0) (all_zero (ψ s)) (first_impossible s) (largest_total nothing s) e
    where
      go : (t u : Bool) (f k : ℕ) → refused n p ≡ cond t (cond u (accepted k) (refused 11 0)) (refused 10 f) → refused n p ≡ cond t (cond u rest (refused 11 0)) (refused 10 f)
      go true true f k q = absurd (false-not-true refl (ap (λ (s : Says). s.ok) q))
      go true false f k q = q
      go false u f k q = q

-- ---- the loop

-- after i positions, where `rest` is left of them
pub record Running (s : List Binding) (i : ℕ) (rest : List Binding) (due : List ℕ) (pending peak : ℕ) : Type 0 where
  pub left : drop i s ≡ rest
  pub state : due ≡ ψ (take i s)
  pub counted : pending ≡ total due
  pub each_possible : AllPass i (possible_at s)
  pub largest : max peak (largest_total due rest) ≡ largest_total nothing s

pub running_start : (s : List Binding) (i : ℕ) (rest : List Binding) (due : List ℕ) → i ≡ 0 → rest ≡ s → due ≡ nothing → Running s i rest due 0 0
running_start s i rest due e f g = record {
  left = rw (e, f);
  state = rw (e, g) (sym (run_nil nothing));
  counted = rw g (sym (zero-total nothing nothing-zero));
  each_possible = λ j l. absurd (omega arith);
  largest = rw (f, g) (omega arith);
}

module _ (s : List Binding) (i : ℕ) (rest : List Binding) (due : List ℕ) (pending peak : ℕ) (r : Running s i rest due pending peak) where
  pub running_state : length s ≤ positions → State most_due due
  running_state few = subst (State most_due) (sym r.state) (ψ_in_bytes (take i s) (omega (arith, length-take i s)))

  -- at the end
  module _ (e : rest ≡ []) where
    passed : length s ≤ i
    passed = drop_end s i (r.left ∙ e)

    all_passed : first_impossible s ≡ 0
    all_passed = pass_impossible s (λ j l. r.each_possible j (omega (arith, passed)))

    last_state : due ≡ ψ s
    last_state = r.state ∙ ap ψ (take_all i s passed)

    pub running_settled : pending ≡ 0 → accepted peak ≡ run_says s
    unfolding run_says largest_total
    running_settled z =
        let zero : all_zero (ψ s) ≡ true = ap all_zero (sym last_state) ∙ total-zero due (sym r.counted ∙ z) in
        let l : peak ≡ largest_total nothing s = omega (arith, r.largest, ap (largest_total due) e) in
        rw (all_passed, zero) (ap accepted l)

    pub running_left : (pending ≡ 0 → ⊥) → refused 11 0 ≡ run_says s
    unfolding run_says
    running_left z =
        let left : all_zero (ψ s) ≡ false =
        ⊎_elim (λ t. absurd (z (r.counted ∙ zero-total due (ap all_zero last_state ∙ t)))) (λ f. f) (true_or_false (all_zero (ψ s))) in
        rw (all_passed, left)

  -- at one position more
  module _ (b : Binding) (rest' : List Binding) (e : rest ≡ b ∷ rest') where
    pub running_inside : i < length s
    running_inside = (drop_head s i b rest' b (r.left ∙ e)).0

    here : at s i ≡ b
    here = (drop_head s i b rest' (record { activity = 0; input = 0; output = 0 }) (r.left ∙ e)).1

    pub running_activity : ((j : ℕ) → j < length s → (at s j).activity < 32) → b.activity < 32
    running_activity low = subst (λ (c : Binding). c.activity < 32) here (low i running_inside)

    possible_here : possible_at s i ≡ possible due b.activity b.input
    possible_here = possible_test s i ∙ rw (r.state, here)

    pub running_impossible : step_says due b.activity b.input b.output ≡ None → refused 10 (i + 1) ≡ run_says s
    unfolding run_says
    running_impossible n =
        let f = fails_impossible s i (record { inside = running_inside; before = r.each_possible; fails = possible_here ∙ impossible_said due b.activity b.input b.output n }) in
        rw (f, ne_eqb (suc i) 0 (λ z. omega arith)) (ap (refused 10) (add-one i))

    pub running_next : (due' : List ℕ) (pending' : ℕ)
        → step_says due b.activity b.input b.output ≡ Some pending'
        → due' ≡ step_gives due b.activity b.input b.output
        → Running s (i + 1) rest' due' pending' (max peak pending')
    unfolding largest_total
    running_next due' pending' t g =
        let said = total_said due b.activity b.input b.output pending' t in
        let d : due' ≡ fired due b = g ∙ gives_possible due b.activity b.input b.output said.0 in
        let same : fired due b ≡ fired (ψ (take i s)) (at s i) = rw (r.state, here) in
        let count : pending' ≡ total due' = sym said.1 ∙ ap total (sym d) in
        record {
          left = (drop_head s i b rest' b (r.left ∙ e)).2;
          state = d ∙ same ∙ sym (ψ-next s i running_inside);
          counted = count;
          each_possible = pass_more (possible_at s) i r.each_possible (possible_here ∙ said.0);
          largest = omega (arith, r.largest, ap (largest_total due) e, ap (λ (l : List ℕ). largest_total l rest') d, said.1);
        }
