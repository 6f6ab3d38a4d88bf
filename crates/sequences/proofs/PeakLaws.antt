-- The peak: the largest total as it is computed is the total after some position, and no total after any position is above it.
-- Both go along the sequence, from any state on. No total exceeds what was added so far, so the sum of the sizes of all Y
-- bounds the peak; of these the last Y has none, and each other at most 32. Assumes nothing.
use Prim.Native.Nat.{ℕ, zero, suc, ◌+◌, ◌*◌, ◌≤◌, ◌<◌}
use mathlib.Core.Path.{◌≡◌, ap, subst, ◌∙◌}
use mathlib.Core.List.{List, [], ◌∷◌}
use mathlib.Core.Logic.{◌↔◌, ⊎_elim}
use native.Mathlib.Numerals.{add-one}
use native.Mathlib.Omega.{arith}
use lib.ListN.{length, take}
use Rattle.obligations.specs.Limits.{activities}
use Rattle.obligations.specs.Sets.{size}
use Rattle.obligations.specs.State.{nothing, total, State}
use Rattle.obligations.specs.Sequence.{at, run}
use Rattle.obligations.specs.declared.sequence.Binding.{Binding}
use Rattle.obligations.proofs.SetLaws.{lt_or_le}
use Rattle.obligations.proofs.MemberLaws.{size_le, size_none}
use Rattle.obligations.proofs.StateLaws.{after_state, nothing_state, nothing-zero}
use Rattle.obligations.proofs.TotalLaws.{after-total, zero-total}
use Rattle.obligations.proofs.SequenceLaws.{fired, run_nil, run_cons, EachFrom, each_first, each_rest}
use Rattle.sequences.specs.Run.{Peak, largest_total, output_sizes}
use Rattle.sequences.proofs.GrowthLaws.{Activities}

-- ---- the largest total is one of the totals, and none is above it

-- the total after the first position, and those after the others as the rest has them
first-total : (d : List ℕ) (b : Binding) (s : List Binding) → total (run d (take 1 (b ∷ s))) ≡ total (fired d b)
first-total d b s = ap total (run_cons d b [] ∙ run_nil (fired d b))

rest_total : (d : List ℕ) (b : Binding) (s : List Binding) (i : ℕ) → total (run d (take (suc (suc i)) (b ∷ s))) ≡ total (run (fired d b) (take (suc i) s))
rest_total d b s i = ap total (run_cons d b (take (suc i) s))

largest_above : (d : List ℕ) (s : List Binding) (i : ℕ) → i < length s → total (run d (take (suc i) s)) ≤ largest_total d s
unfolding largest_total
largest_above d [] i h = absurd (omega arith)
largest_above d (b ∷ s) zero h = omega (arith, first-total d b s)
largest_above d (b ∷ s) (suc i) h = omega (arith, rest_total d b s i, largest_above (fired d b) s i (omega arith))

-- the position at which the largest total is reached
record Reached (d : List ℕ) (s : List Binding) : Type 0 where
  position : ℕ
  inside : position < length s
  reached : total (run d (take (suc position) s)) ≡ largest_total d s

largest_reached : (d : List ℕ) (b : Binding) (s : List Binding) → Reached d (b ∷ s)
unfolding largest_total
largest_reached d b [] = record { position = 0; inside = omega arith; reached = omega (arith, first-total d b []) }
largest_reached d b (c ∷ s) =
    let r = largest_reached (fired d b) c s in
    ⊎_elim
    (λ (l : total (fired d b) < largest_total (fired d b) (c ∷ s)). record {
      position = suc r.position;
      inside = omega (arith, r.inside);
      reached = omega (arith, rest_total d b (c ∷ s) r.position, r.reached);
    })
    (λ (l : largest_total (fired d b) (c ∷ s) ≤ total (fired d b)). record { position = 0; inside = omega arith; reached = omega (arith, first-total d b (c ∷ s)) })
    (lt_or_le (total (fired d b)) (largest_total (fired d b) (c ∷ s)))

largest_peak : (s : List Binding) → 0 < length s → Peak s (largest_total nothing s)
largest_peak [] h = absurd (omega arith)
largest_peak (b ∷ s) h =
    let r = largest_reached nothing b s in
    record {
      position = r.position;
      inside = r.inside;
      reached = rw (add-one r.position) (omega (arith, r.reached));
      highest = λ i l. rw (add-one i) (largest_above nothing (b ∷ s) i l);
    }

-- a sequence has one peak at most
peak_unique : (s : List Binding) (m n : ℕ) → Peak s m → Peak s n → m ≡ n
peak_unique s m n p q = omega (arith, p.reached, q.reached, p.highest q.position q.inside, q.highest p.position p.inside)

pub largest_exactly : (s : List Binding) (peak : ℕ) → 0 < length s → (largest_total nothing s ≡ peak) ↔ Peak s peak
largest_exactly s peak h = ((λ e. subst (Peak s) e (largest_peak s h)), (λ p. peak_unique s (largest_total nothing s) peak (largest_peak s h) p))

-- ---- the sum of the sizes of all Y

-- no total exceeds what was there and what was added since
totals_bounded : (d : List ℕ) (s : List Binding) (n : ℕ) → State n d → Activities s → EachFrom d s → largest_total d s ≤ total d + output_sizes s
unfolding largest_total output_sizes
totals_bounded d [] n k a e = omega arith
totals_bounded d (b ∷ s) n k a e =
    let next = after-total d b.activity b.input b.output k.long (a 0 (omega arith)) (each_first d b s e) in
    let rest = totals_bounded (fired d b) s (n + 1) (after_state n d b.activity b.input b.output k) (λ i l. a (suc i) (omega arith)) (each_rest d b s e) in
    omega (arith, next, rest)

pub peak_bounded : (s : List Binding) → Activities s → EachFrom nothing s → largest_total nothing s ≤ output_sizes s
peak_bounded s a e = omega (arith, totals_bounded nothing s 0 nothing_state a e, zero-total nothing nothing-zero)

-- where the last Y, with n positions before it, is empty
pub sizes_bounded : (s : List Binding) (n : ℕ) → length s ≡ suc n → (at s n).output ≡ 0 → output_sizes s ≤ activities * n
unfolding output_sizes
sizes_bounded [] n e z = absurd (omega arith)
sizes_bounded (b ∷ []) zero e z = omega (arith, ap size z, size_none)
sizes_bounded (b ∷ []) (suc n) e z = absurd (omega arith)
sizes_bounded (b ∷ c ∷ s) zero e z = absurd (omega arith)
sizes_bounded (b ∷ c ∷ s) (suc n) e z = omega (arith, size_le b.output, sizes_bounded (c ∷ s) n (omega arith) z)
