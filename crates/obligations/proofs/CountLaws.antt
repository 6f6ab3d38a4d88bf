-- The step said of each pair (p, q), as 000's ψ says it, and possible said of each member and by the set of those because of which
-- an activity is due. The places of a binding's inputs are one row of the state and those of its outputs one column, so a pair is
-- selected as often as a bit says. Every place of a state is that of one pair of activities, so that all counts are zero exactly if
-- those of all pairs are. Assumes nothing.
use Rattle.std.proofs.Common.{ℕ, ◌+◌, ◌-◌, ◌*◌, ◌/◌, ◌%◌, ◌≤◌, ◌<◌, ◌^◌, ◌≡◌, ap, ap₂, subst, ◌∙◌, ⊎_elim, true, not, ◌&&◌, List, arith, eq-eqb, ne_eqb, eqb, lit<, length, take, drop, get_or, get_or-take, get_or-drop, sym}
use Rattle.std.proofs.lemmas.Bool.{eqb-false, not-true}
use Rattle.obligations.specs.Limits.{activities}
use Rattle.obligations.specs.Sets.{member, subset}
use Rattle.obligations.specs.State.{count, inputs, outputs, Causes, possible, after, all_zero}
use Rattle.obligations.specs.Sequence.{NothingLeft}
use Rattle.obligations.specs.Tests.{indicator}
use Rattle.obligations.proofs.BoolLaws.{same_test}
use Rattle.obligations.proofs.BitLaws.{same, same_cases}
use Rattle.obligations.proofs.SetLaws.{member-bit, bit-member, bit-indicator, member-activity, subset-members, members-subset}
use Rattle.obligations.proofs.PlaceLaws.{occ, places_at, places_off, places_found, due_at, due_all}
use Rattle.obligations.proofs.StateLaws.{after-at, zero-at, at_zero}

-- at (p, q) a binding's inputs take one exactly where q is a and p in x
pub inputs-at : (a x p q : ℕ) → p < 32 → occ (q * 32 + p) (inputs a x) ≡ indicator (eqb q a && member x p)
unfolding inputs
inputs-at a x p q hp = ⊎_elim own other (same_cases q a)
  where
    own : (q ≡ a) × (same q a ≡ 1) → occ (q * 32 + p) (inputs a x) ≡ indicator (eqb q a && member x p)
    own w =
        let e = w.0 in
        rw (eq-eqb q a e) (ap (λ (j : ℕ). occ j (inputs a x)) (omega arith) ∙ places_at (a * 32) 1 (lit< tt) x p hp ∙ bit-indicator x p)

    other : (q ≡ a → ⊥) × (same q a ≡ 0) → occ (q * 32 + p) (inputs a x) ≡ indicator (eqb q a && member x p)
    other w = rw (ne_eqb q a w.0) (places_off (a * 32) 1 x (q * 32 + p) (λ k hk e. w.0 (omega arith)))

-- and its outputs add one exactly where p is a and q in y
pub outputs-at : (a y p q : ℕ) → a < 32 → p < 32 → q < 32 → occ (q * 32 + p) (outputs a y) ≡ indicator (eqb p a && member y q)
unfolding outputs
outputs-at a y p q ha hp hq = ⊎_elim own other (same_cases p a)
  where
    own : (p ≡ a) × (same p a ≡ 1) → occ (q * 32 + p) (outputs a y) ≡ indicator (eqb p a && member y q)
    own w =
        let e = w.0 in
        rw (eq-eqb p a e) (ap (λ (j : ℕ). occ j (outputs a y)) (omega arith) ∙ places_at a 32 (lit< tt) y q hq ∙ bit-indicator y q)

    other : (p ≡ a → ⊥) × (same p a ≡ 0) → occ (q * 32 + p) (outputs a y) ≡ indicator (eqb p a && member y q)
    other w = rw (ne_eqb p a w.0) (places_off a 32 y (q * 32 + p) (λ k hk e. w.0 (omega arith)))

pub after-count : (d : List ℕ) (a x y p q : ℕ) → length d ≡ 1024 → a < 32 → p < 32 → q < 32
    → count (after d a x y) p q ≡ (count d p q - indicator (eqb q a && member x p)) + indicator (eqb p a && member y q)
unfolding count
after-count d a x y p q l ha hp hq =
    after-at d a x y (q * 32 + p) (omega arith)
    ∙ ap₂ (λ (u v : ℕ). (get_or d (q * 32 + p) 0 - u) + v) (inputs-at a x p q hp) (outputs-at a y p q ha hp hq)

-- ---- possible, said of each member of x

pub possible-count : (d : List ℕ) (a x : ℕ) → possible d a x ≡ true → (p : ℕ) → p < 32 → member x p ≡ true → 1 ≤ count d p a
unfolding possible count inputs
possible-count d a x e p hp hm =
    let o = places_at (a * 32) 1 (lit< tt) x p hp ∙ member-bit x p hm in
    let c = due_at d (inputs a x) e (a * 32 + p * 1) (omega arith) in
    subst (λ (j : ℕ). 1 ≤ get_or d j 0) (omega arith) c

pub count-possible : (d : List ℕ) (a x : ℕ) → ((p : ℕ) → p < 32 → member x p ≡ true → 1 ≤ count d p a) → possible d a x ≡ true
unfolding possible count inputs
count-possible d a x h = due_all d (inputs a x) (λ j o.
    let f = places_found (a * 32) 1 x j o in
    let e = f.2 in
    subst (λ (i : ℕ). 1 ≤ get_or d i 0) (omega arith) (h f.0 f.1 (bit-member x f.0 f.3)))

-- those because of which a is due are read off its row of counts
pub row_causes : (d : List ℕ) (a s n : ℕ) → n ≡ activities → ((p : ℕ) → p < activities → member s p ≡ not (eqb (get_or (take n (drop (a * activities) d)) p 0) 0)) → Causes d a s
unfolding count
row_causes d a s n e f p h =
    let here : member s p ≡ not (eqb (get_or d (a * activities + p) 0) 0) =
    f p h ∙ ap (λ (c : ℕ). not (eqb c 0)) (get_or-take n (drop (a * activities) d) p 0 (omega arith) ∙ get_or-drop (a * activities) d p 0) in (
      (λ m. let c = eqb-false (get_or d (a * activities + p) 0) 0 (not-true _ (sym here ∙ m)) in omega arith),
      (λ l. here ∙ rw (ne_eqb (get_or d (a * activities + p) 0) 0 (omega arith))),
    )

-- so a binding of a with x is possible exactly if all of x are among those
pub subset_possible : (d : List ℕ) (a x s : ℕ) → x < 2 ^ 32 → s < 2 ^ 32 → Causes d a s → subset x s ≡ possible d a x
subset_possible d a x s hx hs c =
    same_test (subset x s) (possible d a x) (λ e. count-possible d a x (λ p h m. (c p h).0 (subset-members x s hx hs e p m)))
    (λ e. members-subset x s hx hs (λ p m. let h = member-activity x p hx m in (c p h).1 (possible-count d a x e p h m)))

-- ---- all counts zero, said of each pair

pub zero-count : (d : List ℕ) → all_zero d ≡ true → NothingLeft d
unfolding count
zero-count d e p q hp hq = zero-at d e (q * 32 + p)

-- the place i is that of the pair (i % 32, i / 32)
pub count-zero : (d : List ℕ) → length d ≡ 1024 → NothingLeft d → all_zero d ≡ true
unfolding count
count-zero d long h = at_zero d (λ i l. subst (λ (j : ℕ). get_or d j 0 ≡ 0) (omega arith) (h (i % 32) (i / 32) (omega arith) (omega arith)))
