-- The sets that sequences have for a side, and how often they use each. A sequence that uses no set more often than another fits and
-- can be counted where the other does. A net that gains one sequence and then another gains what both one after the other have: the
-- sets of either, and the sum of the uses. So both together fit and can be counted exactly if the first does, and the second does in
-- the net that has gained the first. The net after a gain depends only on the net before it and on the uses. Assumes nothing.
use Prim.Native.Nat.{ℕ, zero, suc, ◌+◌, ◌≤◌, ◌<◌}
use native.Mathlib.Decide.{ℕ_discrete as dec_eq, dec_lt}
use native.Mathlib.Omega.{arith}
use mathlib.Core.Path.{◌≡◌, refl, sym, ap, subst, ◌∙◌}
use mathlib.Core.Bool.{◌&&◌}
use mathlib.Core.List.{List, [], ◌∷◌, ◌++◌}
use mathlib.Core.Logic.{◌↔◌, ◌⊎◌, inl, inr, ⊎_elim}
use borrow.Author.Tests.{eq-eqb, ne_eqb}
use lib.Dec.{eqb}
use lib.ListN.{length}
use Rattle.obligations.specs.Tests.{indicator}
use Rattle.obligations.specs.Sequence.{WellFormed, at}
use Rattle.obligations.specs.declared.sequence.Binding.{Binding}
use Rattle.net.specs.Limits.{sets}
use Rattle.net.specs.Sides.{count_of, OnSide}
use Rattle.net.specs.Orderly.{Orderly}
use Rattle.net.specs.Valid.{Valid}
use Rattle.net.specs.declared.Net.{Net}
use Rattle.net.specs.declared.sides.Side.{Side}
use Rattle.net.specs.declared.sides.Side.TheVariants.{Input, Output}
use Rattle.net.proofs.OrderlyLaws.{facts_orderly}
use Rattle.net.proofs.DistinctLaws.{fewer}
use Rattle.net.proofs.RefusalLaws.{few_on_side}
use Rattle.net.proofs.Theorems.{alike_equal}
use Rattle.sequences.specs.Gain.{set_for, SetOf, uses, occurrences_of, Gains, Fits, Countable}
use Rattle.sequences.specs.Statements.{GainsDetermined}

-- ---- sets

-- the sets that a sequence has for a side, at its first position or after it
pub set_first : (t : Side) (b : Binding) (s : List Binding) {a m : ℕ} → b.activity ≡ a → set_for t b ≡ m → SetOf t (b ∷ s) a m
set_first t b s ea em = record { position = 0; inside = omega arith; activity_is = ea; set_is = em }

set-later : (t : Side) (b : Binding) (s : List Binding) {a m : ℕ} → SetOf t s a m → SetOf t (b ∷ s) a m
set-later t b s f = record { position = suc f.position; inside = omega (arith, f.inside); activity_is = f.activity_is; set_is = f.set_is }

set_cases : (t : Side) (b : Binding) (s : List Binding) {a m : ℕ} → SetOf t (b ∷ s) a m → ((b.activity ≡ a) × (set_for t b ≡ m)) ⊎ SetOf t s a m
set_cases t b s {a} {m} f = go f.position f.inside f.activity_is f.set_is
  where
    go : (i : ℕ) → i < suc (length s) → (at (b ∷ s) i).activity ≡ a → set_for t (at (b ∷ s) i) ≡ m → ((b.activity ≡ a) × (set_for t b ≡ m)) ⊎ SetOf t s a m
    go zero l ea em = inl (ea, em)
    go (suc i) l ea em = inr (record { position = i; inside = omega arith; activity_is = ea; set_is = em })

-- one position has one set for its activity's side
pub only_set : (t : Side) (b : Binding) {a m : ℕ} → SetOf t (b ∷ []) a m → (b.activity ≡ a) × (set_for t b ≡ m)
only_set t b f = ⊎_elim (λ w. w) (λ g. absurd (omega (arith, g.inside))) (set_cases t b [] f)

-- ---- uses

-- a position of activity a that has m uses it once
pub own_use : (t : Side) (b : Binding) (a m : ℕ) → b.activity ≡ a → set_for t b ≡ m → indicator (eqb b.activity a && eqb (set_for t b) m) ≡ 1
own_use t b a m e f = rw (eq-eqb b.activity a e, eq-eqb (set_for t b) m f)

-- and one that uses it is of activity a and has m
used_own : (t : Side) (b : Binding) (a m : ℕ) → 0 < indicator (eqb b.activity a && eqb (set_for t b) m) → (b.activity ≡ a) × (set_for t b ≡ m)
used_own t b a m h = elim (dec_eq b.activity a) [
  | yes e ↦ elim (dec_eq (set_for t b) m) [
    | yes f ↦ (e, f)
    | no f ↦ absurd (omega (arith, rw (eq-eqb b.activity a e, ne_eqb (set_for t b) m f) at h))
  ]
  | no e ↦ absurd (omega (arith, rw (ne_eqb b.activity a e) at h))
]

-- a sequence uses its own sets and no other
pub set_used : (t : Side) (s : List Binding) (a m : ℕ) → SetOf t s a m → 0 < uses t s a m
unfolding uses
set_used t [] a m f = absurd (omega (arith, f.inside))
set_used t (b ∷ s) a m f = ⊎_elim (λ w. omega (arith, own_use t b a m w.0 w.1)) (λ w. omega (arith, set_used t s a m w)) (set_cases t b s f)

pub used_set : (t : Side) (s : List Binding) (a m : ℕ) → 0 < uses t s a m → SetOf t s a m
unfolding uses
used_set t [] a m h = absurd (omega arith)
used_set t (b ∷ s) a m h = elim (dec_lt 0 (uses t s a m)) [
  | yes l ↦ set-later t b s (used_set t s a m l)
  | no l ↦ let w = used_own t b a m (omega arith) in set_first t b s w.0 w.1
]

-- ---- no set is used more often in the one than in the other

abbrev pub NoMore : List Binding → List Binding → Type 0
NoMore s s' = (t : Side) (a m : ℕ) → uses t s a m ≤ uses t s' a m

module _ (s s' : List Binding) (u : NoMore s s') where
  set_within : (t : Side) (a m : ℕ) → SetOf t s a m → SetOf t s' a m
  set_within t a m f = used_set t s' a m (omega (arith, set_used t s a m f, u t a m))

  pub fits_within : (net : Net) → Fits net s' → Fits net s
  fits_within net f = record { at_most = λ t a h. fewer sets _ _ (λ m. ⊎_elim inl (λ w. inr (set_within t a m w))) (f.at_most t a h) }

  pub countable_within : (net : Net) → Countable net s' → Countable net s
  countable_within net c = record { at_most = λ t a m f. omega (arith, c.at_most t a m (set_within t a m f), u t a m) }

-- ---- one sequence after the other

pub uses_join : (t : Side) (r s : List Binding) (a m : ℕ) → uses t (r ++ s) a m ≡ uses t r a m + uses t s a m
unfolding uses
uses_join t [] s a m = omega arith
uses_join t (b ∷ r) s a m = omega (arith, uses_join t r s a m)

pub occurrences_nothing : (a : ℕ) → occurrences_of [] a ≡ 0
unfolding occurrences_of
occurrences_nothing a = refl

pub occurrences_join : (r s : List Binding) (a : ℕ) → occurrences_of (r ++ s) a ≡ occurrences_of r a + occurrences_of s a
unfolding occurrences_of
occurrences_join [] s a = omega arith
occurrences_join (b ∷ r) s a = omega (arith, occurrences_join r s a)

pub set_either : (t : Side) (r s : List Binding) (a m : ℕ) → SetOf t (r ++ s) a m → SetOf t r a m ⊎ SetOf t s a m
set_either t r s a m f = elim (dec_lt 0 (uses t r a m)) [
  | yes l ↦ inl (used_set t r a m l)
  | no l ↦ inr (used_set t s a m (omega (arith, set_used t (r ++ s) a m f, uses_join t r s a m)))
]

pub first_no_more : (r s : List Binding) → NoMore r (r ++ s)
first_no_more r s t a m = omega (arith, uses_join t r s a m)

second_no_more : (r s : List Binding) → NoMore s (r ++ s)
second_no_more r s t a m = omega (arith, uses_join t r s a m)

-- the sides of a net that has gained a sequence
abbrev pub SetsGained : Net → List Binding → Net → Type 0
SetsGained net s after = (t : Side) (a m : ℕ) → OnSide after t a m ↔ (OnSide net t a m ⊎ SetOf t s a m)

module _ (net next : Net) (r s : List Binding) (g : SetsGained net r next) where
  sets_both : (t : Side) (a m : ℕ) → (OnSide next t a m ⊎ SetOf t s a m) ↔ (OnSide net t a m ⊎ SetOf t (r ++ s) a m)
  sets_both t a m = (
    ⊎_elim (λ i. ⊎_elim inl (λ f. inr (set_within r (r ++ s) (first_no_more r s) t a m f)) ((g t a m).0 i)) (λ f. inr (set_within s (r ++ s) (second_no_more r s) t a m f)),
    ⊎_elim (λ i. inl ((g t a m).1 (inl i))) (λ f. ⊎_elim (λ e. inl ((g t a m).1 (inr e))) inr (set_either t r s a m f)),
  )

  pub fits_after : Fits net (r ++ s) → Fits next s
  fits_after f = record { at_most = λ t a h. fewer sets _ _ (λ m. (sets_both t a m).0) (f.at_most t a h) }

  pub fits_both : Fits next s → Fits net (r ++ s)
  fits_both f = record { at_most = λ t a h. fewer sets _ _ (λ m. (sets_both t a m).1) (f.at_most t a h) }

module _ (net next : Net) (r s : List Binding) (g : Gains net r next) where
  counts_both : (t : Side) (a m : ℕ) → count_of next t a m + uses t s a m ≡ count_of net t a m + uses t (r ++ s) a m
  counts_both t a m = omega (arith, g.counted t a m, uses_join t r s a m)

  pub gains_both : (last : Net) → Gains next s last → Gains net (r ++ s) last
  gains_both last k = record {
    same_start = k.same_start ∙ g.same_start;
    same_end = k.same_end ∙ g.same_end;
    is_orderly = k.is_orderly;
    on_sides = λ t a m. let e = sets_both net next r s g.on_sides t a m in ((λ i. e.0 ((k.on_sides t a m).0 i)), (λ w. (k.on_sides t a m).1 (e.1 w)));
    counted = λ t a m. k.counted t a m ∙ counts_both t a m;
  }

  pub countable_after : Countable net (r ++ s) → Countable next s
  countable_after c = record {
    at_most = λ t a m f. omega (arith, c.at_most t a m (set_within s (r ++ s) (second_no_more r s) t a m f), counts_both t a m);
  }

  pub countable_both : Countable net r → Countable next s → Countable net (r ++ s)
  countable_both c d = record {
    at_most = λ t a m f. elim (dec_lt 0 (uses t s a m)) [
      | yes l ↦ omega (arith, d.at_most t a m (used_set t s a m l), counts_both t a m)
      | no l ↦ omega (arith, c.at_most t a m (used_set t r a m (omega (arith, set_used t (r ++ s) a m f, uses_join t r s a m))), uses_join t r s a m)
    ];
  }

-- ---- no sequence

module _ (net : Net) (o : Orderly net) where
  pub gains_nothing : Gains net [] net
  unfolding uses
  gains_nothing = record {
    same_start = refl;
    same_end = refl;
    is_orderly = o;
    on_sides = λ t a m. (inl, ⊎_elim (λ i. i) (λ f. absurd (omega (arith, f.inside))));
    counted = λ t a m. omega arith;
  }

  pub fits_nothing : Fits net []
  fits_nothing = record { at_most = λ t a h. fewer sets _ _ (λ m. ⊎_elim (λ i. i) (λ f. absurd (omega (arith, f.inside)))) (few_on_side net (facts_orderly net o) t a h) }

pub countable_nothing : (net : Net) → Countable net []
countable_nothing net = record { at_most = λ t a m f. absurd (omega (arith, f.inside)) }

-- ---- what the net after a gain is

-- well-formed for the start and end of a net that has the same
pub formed_as : {s : List Binding} (start end start' end' : ℕ) → start ≡ start' → end ≡ end' → WellFormed start end s → WellFormed start' end' s
formed_as {s} start end start' end' e f w = subst (λ (a : ℕ). WellFormed a end' s) e (subst (λ (b : ℕ). WellFormed start b s) f w)

-- well-formed and using no set more often than what was gained, a sequence is valid in the net after it
pub gained-valid : (net after : Net) (s s' : List Binding) → NoMore s s' → Gains net s' after → WellFormed net.start net.end s → Valid after s
gained-valid net after s s' u g w = record {
  well_formed = formed_as net.start net.end after.start after.end (sym g.same_start) (sym g.same_end) w;
  inputs_on_side = there Input;
  outputs_on_side = there Output;
}
  where
    there : (side : Side) (i : ℕ) → i < length s → OnSide after side (at s i).activity (set_for side (at s i))
    there side i l = (g.on_sides side _ _).1 (inr (set_within s s' u side _ _ (record { position = i; inside = l; activity_is = refl; set_is = refl })))

-- a net that has gained no other sets has no other sets
pub gained_among : (net after after' : Net) (s s' : List Binding) → Gains net s after → Gains net s' after' → ((t : Side) (a m : ℕ) → SetOf t s a m → SetOf t s' a m)
    → (t : Side) (a m : ℕ) → OnSide after t a m → OnSide after' t a m
gained_among net after after' s s' g k f t a m i = (k.on_sides t a m).1 (⊎_elim inl (λ w. inr (f t a m w)) ((g.on_sides t a m).0 i))

-- and the net is determined by how often each set is used
pub gains_same : GainsDetermined
gains_same net s s' after after' u g k =
    alike_equal after after' g.is_orderly k.is_orderly
    (record {
      same_start = g.same_start ∙ sym k.same_start;
      same_end = g.same_end ∙ sym k.same_end;
      same_sets = λ t a m. (
        gained_among net after after' s s' g k (set_within s s' (λ t a m. omega (arith, u t a m))) t a m,
        gained_among net after' after s' s k g (set_within s' s (λ t a m. omega (arith, u t a m))) t a m,
      );
      same_counts = λ t a m. g.counted t a m ∙ ap (◌+◌ (count_of net t a m)) (u t a m) ∙ sym (k.counted t a m);
    })
