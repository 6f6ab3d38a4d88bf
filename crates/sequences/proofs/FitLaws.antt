-- No side would exceed 16 sets exactly if every put on the way is accepted: a put that is refused shows a side of 16 sets and one
-- more, and after a position whose puts are accepted the same is asked of the others, in the net that has gained it. Assumes nothing.
use Prim.Native.Nat.{ℕ, suc, ◌<◌}
use mathlib.Core.Path.{◌≡◌, refl, sym}
use mathlib.Core.Bool.{true, false}
use mathlib.Core.List.{List, [], ◌∷◌}
use mathlib.Core.Logic.{◌↔◌, inl, inr, ⊎_elim}
use native.Mathlib.Omega.{arith}
use lib.ListN.{length}
use Rattle.obligations.specs.Sequence.{at}
use Rattle.obligations.specs.declared.sequence.Binding.{Binding}
use Rattle.obligations.proofs.BoolLaws.{and_both, true_or_false}
use Rattle.net.specs.Sides.{sides_of, empty_at, sets_on}
use Rattle.net.specs.Orderly.{orderly}
use Rattle.net.specs.Put.{misplaced, side_says}
use Rattle.net.specs.declared.Net.{Net}
use Rattle.net.specs.declared.sides.Side.{Side}
use Rattle.net.specs.declared.sides.Side.TheVariants.{Input, Output}
use Rattle.net.proofs.PutSideLaws.{refused_full}
use Rattle.net.proofs.OrderlyLaws.{sets_length, orderly_facts}
use Rattle.net.proofs.DistinctLaws.{distinct_more}
use Rattle.net.proofs.ListLaws.{head_or_later}
use Rattle.net.proofs.RefusalLaws.{side_distinct}
use Rattle.sequences.specs.Gain.{with_use, takes_put, with_binding, takes_binding, fits, set_for, Fits}
use Rattle.sequences.proofs.JoinLaws.{set_first, fits_nothing, fits_after, fits_both}
use Rattle.sequences.proofs.GrowthLaws.{Activities, with_binding_orderly, with_binding_sets, fits-first, fits_rest}

-- ---- where one is refused

module _ (net : Net) (b : Binding) (o : orderly net ≡ true) (h : b.activity < 32) where
  -- a side of 16 sets and a set that isn't one of them
  full_exceeds : (t : Side) (s : List Binding) → misplaced (empty_at net t) b.activity (set_for t b) ≡ false
      → (side_says (sides_of net t) (empty_at net t) b.activity (set_for t b)).ok ≡ false → Fits net (b ∷ s) → ⊥
  full_exceeds t s p k w =
      let ms = sets_on net t b.activity in
      let f = refused_full (sides_of net t) (empty_at net t) b.activity (set_for t b) p k in
      let n = w.at_most t b.activity h (set_for t b ∷ ms) (distinct_more (set_for t b) ms f.0 (side_distinct net o t b.activity h))
      (λ m i. ⊎_elim inl (λ e. inr (set_first t b s refl (sym e))) (head_or_later m (set_for t b) ms i)) in
      omega (arith, sets_length net o t b.activity h, f.1)

  refused_exceeds : misplaced net.start b.activity b.input ≡ false → misplaced net.end b.activity b.output ≡ false → (s : List Binding) → takes_binding net b ≡ false → Fits net (b ∷ s) → ⊥
  unfolding takes_binding takes_put with_use
  refused_exceeds pi po s k w =
      ⊎_elim (λ t. full_exceeds Output s po (rw t at k) w) (λ f. full_exceeds Input s pi f w)
      (true_or_false (side_says net.inputs net.start b.activity b.input).ok)

-- ---- a sequence

-- no set is misplaced
abbrev pub Placed : Net → List Binding → Type 0
Placed net s = (i : ℕ) → i < length s → (misplaced net.start (at s i).activity (at s i).input ≡ false) × (misplaced net.end (at s i).activity (at s i).output ≡ false)

fits-accepted : (net : Net) (s : List Binding) → orderly net ≡ true → Activities s → Placed net s → Fits net s → fits net s ≡ true
unfolding fits with_binding with_use
fits-accepted net [] o h p w = refl
fits-accepted net (b ∷ s) o h p w =
    let h₀ = h 0 (omega arith) in
    ⊎_elim
    (λ k. and_both k (fits-accepted (with_binding net b) s (with_binding_orderly net b o h₀ k) (λ i l. h (suc i) (omega arith)) (λ i l. p (suc i) (omega arith)) (fits_after net (with_binding net b) (b ∷ []) s (with_binding_sets net b o h₀ k) w)))
    (λ k. absurd (refused_exceeds net b o h₀ (p 0 (omega arith)).0 (p 0 (omega arith)).1 s k w))
    (true_or_false (takes_binding net b))

accepted-fits : (net : Net) (s : List Binding) → orderly net ≡ true → Activities s → fits net s ≡ true → Fits net s
accepted-fits net [] o h f = fits_nothing net (orderly_facts net o)
accepted-fits net (b ∷ s) o h f =
    let h₀ = h 0 (omega arith) in
    let k = fits-first net b s f in
    fits_both net (with_binding net b) (b ∷ []) s (with_binding_sets net b o h₀ k)
    (accepted-fits (with_binding net b) s (with_binding_orderly net b o h₀ k) (λ i l. h (suc i) (omega arith)) (fits_rest net b s f))

pub fits_exactly : (net : Net) (s : List Binding) → orderly net ≡ true → Activities s → Placed net s → (fits net s ≡ true) ↔ Fits net s
fits_exactly net s o h p = (accepted-fits net s o h, fits-accepted net s o h p)
