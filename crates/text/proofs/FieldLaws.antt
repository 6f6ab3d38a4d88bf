-- Laws of fields: the first part ends at the first separator and the others follow it, there is one part more than
-- separators, the parts joined again are the text, and what was joined is split again. By induction on the text. Assumes
-- nothing.
use Rattle.std.proofs.Common.{ℕ, suc, ◌+◌, ◌<◌, ◌≡◌, refl, sym, ap, ◌∙◌, ◌↔◌, Bool, true, false, cond, List, [], ◌∷◌, ◌++◌, append-nil, arith, eq-eqb, ne_eqb, eqb-true, eqb, length, take, drop}
use mathlib.Core.List.{Memᴰ}
use Rattle.std.proofs.Math.Seq.{take-length}
use Rattle.text.specs.Inner.{CutAt}
use Rattle.obligations.specs.Tests.{indicator}
use Rattle.text.specs.Bytes.{bytes_before, occurrences}
use Rattle.text.specs.Fields.{onto, split, led, join}
use Rattle.text.proofs.ByteLaws.{occurrences-append, occurrences_none_head, occurrences_none_tail}

-- ---- the first part, and the others

split_head : (c : ℕ) (s : List ℕ) → split c s ≡ take (bytes_before c s) s ∷ drop 1 (split c s)
split_head c [] = refl
split_head c (b ∷ s) = go (eqb b c) refl (split_head c s)
  where
    go : (t : Bool) → eqb b c ≡ t → split c s ≡ take (bytes_before c s) s ∷ drop 1 (split c s) → split c (b ∷ s) ≡ take (bytes_before c (b ∷ s)) (b ∷ s) ∷ drop 1 (split c (b ∷ s))
    go true p ih = rw p
    go false p ih = rw (p, ih)

split_rest : (c : ℕ) (s : List ℕ) → bytes_before c s < length s → drop 1 (split c s) ≡ split c (drop (suc (bytes_before c s)) s)
split_rest c [] h = absurd (omega arith)
split_rest c (b ∷ s) h = go (eqb b c) refl (split_rest c s) h
  where
    go : (t : Bool) → eqb b c ≡ t → (bytes_before c s < length s → drop 1 (split c s) ≡ split c (drop (suc (bytes_before c s)) s))
        → bytes_before c (b ∷ s) < length (b ∷ s) → drop 1 (split c (b ∷ s)) ≡ split c (drop (suc (bytes_before c (b ∷ s))) (b ∷ s))
    go true p ih = rw p (λ h. refl)
    go false p ih = rw (p, split_head c s) (λ h. ih (omega arith))

split_last : (c : ℕ) (s : List ℕ) → bytes_before c s ≡ length s → drop 1 (split c s) ≡ []
split_last c [] h = refl
split_last c (b ∷ s) h = go (eqb b c) refl (split_last c s) h
  where
    go : (t : Bool) → eqb b c ≡ t → (bytes_before c s ≡ length s → drop 1 (split c s) ≡ [])
        → bytes_before c (b ∷ s) ≡ length (b ∷ s) → drop 1 (split c (b ∷ s)) ≡ []
    go true p ih = rw p (λ h. absurd (omega arith))
    go false p ih = rw (p, split_head c s) (λ h. ih (omega arith))

-- a text that is cut at its first separator, and one without a separator
pub split_cut : (c : ℕ) (s before behind : List ℕ) → CutAt c s before behind → split c s ≡ before ∷ split c behind
split_cut c s before behind k =
    split_head c s ∙ ap (λ (l : List (List ℕ)). take (bytes_before c s) s ∷ l) (split_rest c s k.inside)
    ∙ rw (k.before_it, k.behind_it) refl

pub split_uncut : (c : ℕ) (s : List ℕ) → bytes_before c s ≡ length s → split c s ≡ s ∷ []
split_uncut c s h =
    let t : take (bytes_before c s) s ≡ s = rw h (take-length s) in
    split_head c s ∙ ap (λ (l : List (List ℕ)). take (bytes_before c s) s ∷ l) (split_last c s h) ∙ ap (λ (p : List ℕ). p ∷ []) t

-- ---- how many parts

pub length-split : (c : ℕ) (s : List ℕ) → length (split c s) ≡ suc (occurrences c s)
length-split c [] = refl
length-split c (b ∷ s) = go (eqb b c) (length-split c s)
  where
    go : (t : Bool) → length (split c s) ≡ suc (occurrences c s) → length (cond t ([] ∷ split c s) (onto b (split c s))) ≡ suc (indicator t + occurrences c s)
    go true ih = omega arith
    go false ih = rw (split_head c s) (omega (arith, ap length (split_head c s)))

pub occurrences-split : (c : ℕ) (s : List ℕ) (k : ℕ) → (occurrences c s ≡ k) ↔ (length (split c s) ≡ suc k)
occurrences-split c s k = ((λ q. length-split c s ∙ ap suc q), (λ q. omega (arith, length-split c s)))

-- the parts joined again are the text
pub join-split : (c : ℕ) (s : List ℕ) → join c (split c s) ≡ s
join-split c [] = refl
join-split c (b ∷ s) = go (eqb b c) refl (split c s) (length-split c s) (join-split c s)
  where
    go : (t : Bool) → eqb b c ≡ t → (ps : List (List ℕ)) → length ps ≡ suc (occurrences c s) → join c ps ≡ s → join c (cond t ([] ∷ ps) (onto b ps)) ≡ b ∷ s
    go t q [] e ih = absurd (omega arith)
    go true q (p ∷ ps) e ih = cc (eqb-true b c q)
    go false q (p ∷ ps) e ih = cc

-- a text without the separator is its only part
pub split_only : (c : ℕ) (p : List ℕ) → occurrences c p ≡ 0 → split c p ≡ p ∷ []
split_only c [] h = refl
split_only c (b ∷ p) h = rw (occurrences_none_head c b p h, split_only c p (occurrences_none_tail c b p h))

-- ---- what was joined

-- parts without a byte, joined by another, are a text without it
led_free : (c d : ℕ) → (c ≡ d → ⊥) → (ps : List (List ℕ)) → ((q : List ℕ) → Memᴰ q ps → occurrences c q ≡ 0) → occurrences c (led d ps) ≡ 0
led_free c d n [] h = refl
led_free c d n (p ∷ ps) h =
    rw (ne_eqb d c (λ e. n (sym e))) (omega (arith, occurrences-append c p (led d ps), h p (Memᴰ.head refl), led_free c d n ps (λ q m. h q (Memᴰ.tail m))))

pub join_free : (c d : ℕ) → (c ≡ d → ⊥) → (ps : List (List ℕ)) → ((q : List ℕ) → Memᴰ q ps → occurrences c q ≡ 0) → occurrences c (join d ps) ≡ 0
join_free c d n [] h = refl
join_free c d n (p ∷ ps) h = omega (arith, occurrences-append c p (led d ps), h p (Memᴰ.head refl), led_free c d n ps (λ q m. h q (Memᴰ.tail m)))

-- a part without the separator, and what follows its separator
pub split_field : (c : ℕ) (p t : List ℕ) → occurrences c p ≡ 0 → split c (p ++ c ∷ t) ≡ p ∷ split c t
split_field c [] t h = rw (eq-eqb c c refl)
split_field c (b ∷ p) t h = rw (occurrences_none_head c b p h, split_field c p t (occurrences_none_tail c b p h))

-- parts without the separator, joined by it, are split into those parts
pub split-join : (c : ℕ) (p : List ℕ) (ps : List (List ℕ)) → ((q : List ℕ) → Memᴰ q (p ∷ ps) → occurrences c q ≡ 0) → split c (join c (p ∷ ps)) ≡ p ∷ ps
split-join c p [] h = rw (append-nil p) (split_only c p (h p (Memᴰ.head refl)))
split-join c p (r ∷ ps) h = split_field c p (r ++ led c ps) (h p (Memᴰ.head refl)) ∙ ap (λ (l : List (List ℕ)). p ∷ l) (split-join c r ps (λ q m. h q (Memᴰ.tail m)))
