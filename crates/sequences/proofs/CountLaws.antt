-- The net after it gained a sequence, position by position: it has the sequence's sets and has counted their uses, and the counts of a
-- side add up to so many more as its activity occurs. Every count could be raised exactly if none would exceed its top; of the
-- positions behind the first this is asked in the net that has gained the first. Assumes nothing.
use Prim.Native.Nat.{ℕ, suc, ◌+◌, ◌<◌}
use mathlib.Core.Path.{◌≡◌, refl, sym, subst}
use mathlib.Core.Bool.{true}
use mathlib.Core.List.{List, [], ◌∷◌}
use mathlib.Core.Logic.{◌↔◌}
use native.Mathlib.Omega.{arith}
use borrow.Author.Tests.{eq-eqb, eqb-true}
use Rattle.obligations.specs.State.{total}
use Rattle.obligations.specs.declared.sequence.Binding.{Binding}
use Rattle.net.specs.Limits.{most_uses}
use Rattle.net.specs.Sides.{counts_on, count_of}
use Rattle.net.specs.Orderly.{orderly}
use Rattle.net.specs.declared.Net.{Net}
use Rattle.net.specs.declared.sides.Side.{Side}
use Rattle.net.proofs.OrderlyLaws.{orderly_facts}
use Rattle.sequences.specs.Gain.{set_for, uses, occurrences_of, Gains, Countable, takes_binding, topped_binding, with_binding, gained, fits, topped, countable}
use Rattle.sequences.proofs.JoinLaws.{set_first, only_set, own_use, countable_within, first_no_more, gains_nothing, countable_nothing, gains_both, countable_after, countable_both}
use Rattle.sequences.proofs.GrowthLaws.{Activities, with_binding_contained, with_binding_sets, with_binding_orderly, topped_binding_lem, with_binding_count, with_binding_sum, fits-first, fits_rest}

-- ---- one position

module _ (net : Net) (b : Binding) (o : orderly net ≡ true) (h : b.activity < 32) (k : takes_binding net b ≡ true) where
  position_countable : (topped_binding net b ≡ 0) ↔ Countable net (b ∷ [])
  unfolding uses
  position_countable = (
    (λ z. record {
      at_most = λ t a m f.
          let w = only_set t b f in
          omega (arith, own_use t b a m w.0 w.1, subst (λ (x : ℕ). count_of net t a x < most_uses) w.1 (subst (λ (x : ℕ). count_of net t x (set_for t b) < most_uses) w.0 ((topped_binding_lem net b o h k).0 z t)));
    }),
    (λ c. (topped_binding_lem net b o h k).1 (λ t. omega (arith, c.at_most t b.activity (set_for t b) (set_first t b [] refl refl), own_use t b b.activity (set_for t b) refl refl))),
  )

  gains_position : topped_binding net b ≡ 0 → Gains net (b ∷ []) (with_binding net b)
  unfolding uses
  gains_position z =
      let w = with_binding_contained net b o h k in
      record {
        same_start = sym w.same_start;
        same_end = sym w.same_end;
        is_orderly = orderly_facts (with_binding net b) (with_binding_orderly net b o h k);
        on_sides = with_binding_sets net b o h k;
        counted = λ t a m. omega (arith, with_binding_count net b o h k z t a m);
      }

-- ---- a sequence

module _ (net : Net) (b : Binding) (s : List Binding) (z : topped net (b ∷ s) ≡ 0) where
  first_clear : topped_binding net b ≡ 0
  unfolding topped
  first_clear = omega arith

  rest_clear : topped (with_binding net b) s ≡ 0
  unfolding topped
  rest_clear = omega arith

pub gained_gains : (net : Net) (s : List Binding) → orderly net ≡ true → Activities s → fits net s ≡ true → topped net s ≡ 0 → Gains net s (gained net s)
unfolding gained
gained_gains net [] o h f z = gains_nothing net (orderly_facts net o)
gained_gains net (b ∷ s) o h f z =
    let h₀ = h 0 (omega arith) in
    let k = fits-first net b s f in
    gains_both net (with_binding net b) (b ∷ []) s (gains_position net b o h₀ k (first_clear net b s z)) (gained (with_binding net b) s)
    (gained_gains (with_binding net b) s (with_binding_orderly net b o h₀ k) (λ i l. h (suc i) (omega arith)) (fits_rest net b s f) (rest_clear net b s z))

pub gained_sum : (net : Net) (s : List Binding) → orderly net ≡ true → Activities s → fits net s ≡ true → topped net s ≡ 0 → (t : Side) (a : ℕ)
    → total (counts_on (gained net s) t a) ≡ total (counts_on net t a) + occurrences_of s a
unfolding gained occurrences_of
gained_sum net [] o h f z t a = omega arith
gained_sum net (b ∷ s) o h f z t a =
    let k = fits-first net b s f in
    omega (
      arith,
      with_binding_sum net b o (h 0 (omega arith)) k (first_clear net b s z) t a,
      gained_sum (with_binding net b) s (with_binding_orderly net b o (h 0 (omega arith)) k) (λ i l. h (suc i) (omega arith)) (fits_rest net b s f) (rest_clear net b s z) t a,
    )

topped_none : (net : Net) (s : List Binding) → orderly net ≡ true → Activities s → fits net s ≡ true → (topped net s ≡ 0) ↔ Countable net s
unfolding topped
topped_none net [] o h f = ((λ z. countable_nothing net), (λ c. refl))
topped_none net (b ∷ s) o h f =
    let h₀ = h 0 (omega arith) in
    let k = fits-first net b s f in
    let next = with_binding net b in
    let one = position_countable net b o h₀ k in
    let rest = topped_none next s (with_binding_orderly net b o h₀ k) (λ i l. h (suc i) (omega arith)) (fits_rest net b s f) in (
      (λ z. countable_both net next (b ∷ []) s (gains_position net b o h₀ k (omega arith)) (one.0 (omega arith)) (rest.0 (omega arith))),
      (λ c.
          let z = one.1 (countable_within (b ∷ []) (b ∷ s) (first_no_more (b ∷ []) s) net c) in
          omega (arith, z, rest.1 (countable_after net next (b ∷ []) s (gains_position net b o h₀ k z) c))),
    )

pub countable_exactly : (net : Net) (s : List Binding) → orderly net ≡ true → Activities s → fits net s ≡ true → (countable net s ≡ true) ↔ Countable net s
countable_exactly net s o h f =
    let e = topped_none net s o h f in ((λ t. e.0 (eqb-true (topped net s) 0 t)), (λ c. eq-eqb (topped net s) 0 (e.1 c)))
