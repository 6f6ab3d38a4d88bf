-- Where obligations come from and go to: what is due was added by an earlier position, and what a position adds is taken by a
-- later one if nothing is left at the end. Both follow the count of one pair from position to position. Assumes nothing.
use Prim.Native.Nat.{ℕ, zero, suc, ◌+◌, ◌-◌, ◌≤◌, ◌<◌}
use mathlib.Core.Path.{◌≡◌, sym, ap, subst, ◌∙◌}
use mathlib.Core.Bool.{Bool, true, false, ◌&&◌}
use mathlib.Core.List.{List}
use mathlib.Core.Logic.{◌⊎◌, inl, inr, ⊎_elim}
use native.Mathlib.Numerals.{add-one}
use native.Mathlib.Omega.{arith}
use borrow.Author.Tests.{eq-eqb, eqb-true}
use lib.Dec.{eqb}
use lib.ListN.{length, take}
use lib.Seq.{take_all}
use Rattle.obligations.specs.Sets.{member}
use Rattle.obligations.specs.Tests.{indicator}
use Rattle.obligations.specs.State.{count, nothing}
use Rattle.obligations.specs.Sequence.{at, ψ}
use Rattle.obligations.specs.declared.sequence.Binding.{Binding}
use Rattle.obligations.proofs.BoolLaws.{and_left, and_right, and_both, true_or_false}
use Rattle.obligations.proofs.StateLaws.{nothing-zero}
use Rattle.obligations.proofs.CountLaws.{after-count, zero-count}
use Rattle.obligations.proofs.SequenceLaws.{run_nil, ψ-next, ψ_state}

-- a position of activity p whose Y has q, and one of activity q whose X has p
pub record Adds (s : List Binding) (p q i : ℕ) : Type 0 where
  pub activity_is : (at s i).activity ≡ p
  pub in_output : member (at s i).output q ≡ true

pub record Takes (s : List Binding) (p q i : ℕ) : Type 0 where
  pub activity_is : (at s i).activity ≡ q
  pub in_input : member (at s i).input p ≡ true

module _ (s : List Binding) (below : (i : ℕ) → i < length s → (at s i).activity < 32) (p q : ℕ) (hp : p < 32) (hq : q < 32) where
  -- the count of the pair after i positions
  due : ℕ → ℕ
  due i = count (ψ (take i s)) p q

  adds : ℕ → Bool
  adds i = eqb p (at s i).activity && member (at s i).output q

  takes : ℕ → Bool
  takes i = eqb q (at s i).activity && member (at s i).input p

  due_next : (i : ℕ) → i < length s → due (suc i) ≡ (due i - indicator (takes i)) + indicator (adds i)
  unfolding due adds takes
  due_next i h =
      ap (λ (k : ℕ). count (ψ (take k s)) p q) (sym (add-one i)) ∙ ap (λ (d : List ℕ). count d p q) (ψ-next s i h)
      ∙ after-count (ψ (take i s)) (at s i).activity (at s i).input (at s i).output p q (ψ_state (take i s)).long (below i h) hp hq

  does_add : (i : ℕ) → adds i ≡ true → Adds s p q i
  unfolding adds
  does_add i e = record {
    activity_is = sym (eqb-true p (at s i).activity (and_left (eqb p (at s i).activity) (member (at s i).output q) e));
    in_output = and_right (eqb p (at s i).activity) (member (at s i).output q) e;
  }

  does_take : (i : ℕ) → takes i ≡ true → Takes s p q i
  unfolding takes
  does_take i e = record {
    activity_is = sym (eqb-true q (at s i).activity (and_left (eqb q (at s i).activity) (member (at s i).input p) e));
    in_input = and_right (eqb q (at s i).activity) (member (at s i).input p) e;
  }

  -- a count that a position neither adds to nor takes from stays
  stays_due : (i : ℕ) → i < length s → takes i ≡ false → due i ≤ due (suc i)
  stays_due i h e = omega (arith, due_next i h, ap indicator e)

  was_due : (i : ℕ) → i < length s → adds i ≡ false → due (suc i) ≤ due i
  was_due i h e = omega (arith, due_next i h, ap indicator e)

  now_due : (i : ℕ) → i < length s → adds i ≡ true → 1 ≤ due (suc i)
  now_due i h e = omega (arith, due_next i h, ap indicator e)

  -- what is due after i positions was added by one of them
  due_from : (i : ℕ) → i ≤ length s → 1 ≤ due i → (j : ℕ) × (j < i) × Adds s p q j
  unfolding due
  due_from zero h d = absurd (omega (arith, ap (λ (e : List ℕ). count e p q) (run_nil nothing), zero-count nothing nothing-zero p q hp hq))
  due_from (suc i) h d =
      ⊎_elim (λ e. (i, omega arith, does_add i e)) (λ e. let w = due_from i (omega arith) (omega (arith, was_due i (omega arith) e)) in (w.0, omega (arith, w.1), w.2))
      (true_or_false (adds i))

  pub due_added : (i : ℕ) → i ≤ length s → 1 ≤ count (ψ (take i s)) p q → (j : ℕ) × (j < i) × Adds s p q j
  unfolding due
  due_added = due_from

  -- what position j adds is taken by a later one, or is still due after d more
  taken_or_due : (j : ℕ) → Adds s p q j → (d : ℕ) → suc (j + d) ≤ length s → ((k : ℕ) × (j < k) × (k < length s) × Takes s p q k) ⊎ (1 ≤ due (suc (j + d)))
  unfolding adds
  taken_or_due j a zero h = inr (subst (λ (i : ℕ). 1 ≤ due (suc i)) (omega arith) (now_due j (omega arith) (and_both (eq-eqb p (at s j).activity (sym a.activity_is)) a.in_output)))
  taken_or_due j a (suc d) h =
      let k = suc (j + d) in
      let e : j + suc d ≡ k = omega arith in
      ⊎_elim inl
      (λ w. ⊎_elim (λ t. inl (k, omega arith, omega arith, does_take k t)) (λ t. inr (subst (λ (i : ℕ). 1 ≤ due (suc i)) (sym e) (omega (arith, stays_due k (omega arith) t)))) (true_or_false (takes k)))
      (taken_or_due j a d (omega arith))

  -- if nothing is left, a later position takes it
  pub added_taken : count (ψ s) p q ≡ 0 → (j : ℕ) → j < length s → Adds s p q j → (k : ℕ) × (j < k) × (k < length s) × Takes s p q k
  unfolding due
  added_taken z j h a =
      let d = length s - suc j in
      ⊎_elim (λ w. w) (λ w. absurd (omega (arith, w, z, ap (λ (l : List Binding). count (ψ l) p q) (take_all (suc (j + d)) s (omega arith))))) (taken_or_due j a d (omega arith))
