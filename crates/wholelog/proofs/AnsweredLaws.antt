-- Laws of answers that are refused as one list says, and where none of its sentences holds as another does (specs/Refusals.antt).
-- Assumes nothing.
use Prim.Native.Nat.{ℕ}
use mathlib.Core.Path.{◌≡◌, refl, ap, ◌∙◌}
use mathlib.Core.Bool.{Bool, true, false, cond}
use mathlib.Core.Logic.{◌↔◌, ◌⊎◌, inl, inr, ⊎_elim}
use Rattle.obligations.proofs.BoolLaws.{false-not-true}
use Rattle.net.specs.Refusals.{Says, refused}
use Rattle.net.specs.Sentences.{Answered}

-- what isn't accepted is a refusal, and nothing beside its number and place
abbrev pub Plain : Says → Type 0
Plain c = c.ok ≡ false → c ≡ refused c.refusal c.place

-- what is plain is accepted exactly if no refusal holds
pub accepted_none : {Given : ℕ → ℕ → Type 0} {None : Type 0} (c : Says) → Plain c → Answered refused Given None c → (c.ok ≡ true) ↔ None
accepted_none {Given} {None} c plain w = (
  (λ o. w.not_refused_exactly.0 (λ n p e. false-not-true (ap (λ (y : Says). y.ok) e) o)),
  (λ none. go c.ok refl none),
)
  where
    go : (b : Bool) → c.ok ≡ b → None → c.ok ≡ true
    go true o none = o
    go false o none = absurd (w.not_refused_exactly.1 none c.refusal c.place (plain o))

-- an answer that is a refusal exactly where another one is
pub answered_as : {A B : Type 0} {r : ℕ → ℕ → A} {q : ℕ → ℕ → B} {Given : ℕ → ℕ → Type 0} {None : Type 0} {a : A} {b : B}
    → ((n p : ℕ) → (a ≡ r n p) ↔ (b ≡ q n p)) → Answered r Given None a → Answered q Given None b
answered_as same w = record {
  refused_exactly = λ n p. ((λ e. (w.refused_exactly n p).0 ((same n p).1 e)), (λ g. (same n p).0 ((w.refused_exactly n p).1 g)));
  not_refused_exactly = ((λ f. w.not_refused_exactly.0 (λ n p e. f n p ((same n p).0 e))), (λ m n p e. w.not_refused_exactly.1 m n p ((same n p).1 e)));
  given_or_none = w.given_or_none;
}

module _ {A : Type 0} (refusal : ℕ → ℕ → A) (same : (n m p q : ℕ) → refusal n p ≡ refusal m q → (n ≡ m) × (p ≡ q)) (c : Says) (plain : Plain c) where
  said-refused : (n p : ℕ) → c ≡ refused n p → c.ok ≡ false
  said-refused n p e = ap (λ (y : Says). y.ok) e

  -- the refusal that was said, or what comes after it
  abbrev pub carried : A → A
  carried rest = cond c.ok rest (refusal c.refusal c.place)

  -- where it is refused as one list says, and what comes after it as another, the whole is as the first says, and then as the second
  pub carried_then : {Given Then : ℕ → ℕ → Type 0} {None Nor : Type 0} (rest : A) → Answered refused Given None c → (c.ok ≡ true → Answered refusal Then Nor rest)
      → Answered refusal (λ n p. Given n p ⊎ (None × Then n p)) (None × Nor) (carried rest)
  carried_then {Given} {Then} {None} {Nor} rest w next = go c.ok refl
    where
      go : (b : Bool) → c.ok ≡ b → Answered refusal (λ n p. Given n p ⊎ (None × Then n p)) (None × Nor) (cond b rest (refusal c.refusal c.place))
      go true o =
          let not : (n p : ℕ) → c ≡ refused n p → ⊥ = λ n p e. false-not-true (said-refused n p e) o in
          let none = w.not_refused_exactly.0 not in
          let v = next o in
          record {
            refused_exactly = λ n p. (
              (λ e. inr (none, (v.refused_exactly n p).0 e)),
              (λ g. ⊎_elim (λ h. absurd (not n p ((w.refused_exactly n p).1 h))) (λ h. (v.refused_exactly n p).1 h.1) g),
            );
            not_refused_exactly = ((λ f. (none, v.not_refused_exactly.0 f)), (λ m. v.not_refused_exactly.1 m.1));
            given_or_none = ⊎_elim (λ m. inl (none, m)) (λ g. inr (g.0, g.1, inr (none, g.2))) v.given_or_none;
          }
      go false o =
          let is = plain o in
          let given : Given c.refusal c.place = (w.refused_exactly c.refusal c.place).0 is in
          let some : None → ⊥ = λ m. w.not_refused_exactly.1 m c.refusal c.place is in
          record {
            refused_exactly = λ n p. (
              (λ e. let s = same c.refusal n c.place p e in inl ((w.refused_exactly n p).0 (is ∙ ap (λ (k : ℕ). refused k c.place) s.0 ∙ ap (refused n) s.1))),
              (λ g. ⊎_elim (λ h. let e = (w.refused_exactly n p).1 h in rw (ap (λ (y : Says). y.refusal) e, ap (λ (y : Says). y.place) e) refl) (λ h. absurd (some h.0)) g),
            );
            not_refused_exactly = ((λ f. absurd (f c.refusal c.place refl)), (λ m. absurd (some m.0)));
            given_or_none = inr (c.refusal, c.place, inl given);
          }
