-- Laws of a text that a sink takes piece by piece: what is left of it, once taken, makes the sink one that has taken the whole text.
-- Assumes nothing.
use Rattle.std.proofs.Common.{ℕ, ◌≡◌, sym, ap, subst, ◌∙◌, List, [], ◌++◌, append_assoc}
use mathlib.Core.List.{append-nil}
use Rattle.text.specs.Sinks.{SinkLaws}

-- of a text that s₀ was to take, s has the rest to take
pub record Left {S : Type 0} (room : S → List ℕ → Type 0) (takes : S → List ℕ → S → Type 0) (s₀ : S) (text : List ℕ) (s : S) (rest : List ℕ) : Type 0 where
  pub taken : List ℕ
  pub is_text : text ≡ taken ++ rest
  pub took : takes s₀ taken s
  pub fits : room s rest

module _ {S : Type 0} {room : S → List ℕ → Type 0} {takes : S → List ℕ → S → Type 0} (k : SinkLaws room takes) where
  pub left_start : (s : S) (text rest : List ℕ) → room s text → text ≡ rest → Left room takes s text s rest
  left_start s text rest h e = record { taken = []; is_text = e; took = k.nothing s; fits = subst (room s) e h }

  module _ {s₀ : S} {text : List ℕ} {s : S} {rest : List ℕ} (l : Left room takes s₀ text s rest) where
    -- the next piece, p, has room, and once it is taken what is behind it is left
    pub left_room : {p : List ℕ} (x y : List ℕ) → p ≡ x → rest ≡ x ++ y → room s p
    left_room x y q e = subst (room s) (sym q) (k.front s x y (subst (room s) e l.fits))

    pub left_more : {p : List ℕ} {t : S} (x y : List ℕ) → p ≡ x → rest ≡ x ++ y → takes s p t → Left room takes s₀ text t y
    left_more {p} {t} x y q e a =
        let P : List ℕ → Type 0 = λ w. takes s w t in
        let b = subst P q a in
        record {
          taken = l.taken ++ x;
          is_text = l.is_text ∙ ap (λ (r : List ℕ). l.taken ++ r) e ∙ sym (append_assoc l.taken x y);
          took = k.both s₀ s t l.taken x l.took b;
          fits = k.behind s t x y (subst (room s) e l.fits) b;
        }

    pub left_end : rest ≡ [] → takes s₀ text s
    left_end e =
        let whole : text ≡ l.taken = l.is_text ∙ ap (λ (r : List ℕ). l.taken ++ r) e ∙ append-nil l.taken in
        let P : List ℕ → Type 0 = λ t. takes s₀ t s in
        subst P (sym whole) l.took
