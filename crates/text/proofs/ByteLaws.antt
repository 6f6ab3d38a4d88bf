-- Laws of byte strings: `drop-step` is the bridge between an index and a list, a byte is found where `position` finds it, and
-- `==` passes exactly on equal strings. Assumes nothing.
use Rattle.std.proofs.Common.{ℕ, zero, suc, ◌+◌, ◌≤◌, ◌<◌, ◌≡◌, refl, sym, ap, ap₂, ◌∙◌, ◌↔◌, Bool, true, false, not, cond, List, [], ◌∷◌, ◌++◌, zero-add, suc-add, add-one, arith, eq-eqb, eqb-true, ltb-true, ltb-false, eqb, ltb, length, get_or, take, drop, Some, None}
use mathlib.Core.Bool.{false≢true}
use Rattle.std.proofs.Math.Seq.{slice, slice-cons, drop-cons, take-nil}
use Rattle.std.specs.List.{position_or_len, position, sum_by}
use Rattle.std.proofs.lemmas.List.Sums.{sum_by-cons}
use Rattle.obligations.specs.Tests.{indicator}
use Rattle.obligations.proofs.BoolLaws.{and_left, and_right}
use Rattle.text.specs.Bytes.{bytes_before, occurrences, same_bytes}
use Rattle.text.specs.Decimal.{is_empty}

-- ---- one byte of a part, and one of the rest

pub slice-step : (s : List ℕ) (k e : ℕ) → k < e → e ≤ length s → slice k e s ≡ get_or s k 0 ∷ slice (k + 1) e s
slice-step s k e h t = rw add-one (slice-cons k e s 0 h t)

pub drop-step : (s : List ℕ) (k : ℕ) → k < length s → drop k s ≡ get_or s k 0 ∷ drop (k + 1) s
drop-step s k h = rw add-one (drop-cons s k 0 h)

-- ---- parts of parts

pub take_drop : (n at : ℕ) (s : List ℕ) → take n (drop at s) ≡ drop at (take (at + n) s)
take_drop n zero s = rw zero-add
take_drop n (suc at) [] = take-nil n ∙ sym (ap (drop (suc at)) (take-nil (suc at + n)))
take_drop n (suc at) (b ∷ s) = rw (suc-add at n) (take_drop n at s)

-- ---- finding a byte

pub before_le : (c : ℕ) (s : List ℕ) → bytes_before c s ≤ length s
before_le c [] = omega arith
before_le c (b ∷ s) = go (eqb b c) (before_le c s)
  where
    go : (t : Bool) → bytes_before c s ≤ length s → cond t 0 (suc (bytes_before c s)) ≤ suc (length s)
    go true h = omega arith
    go false h = omega arith

-- it is where `position` finds the byte
pub before-position : (c : ℕ) (s : List ℕ) → bytes_before c s ≡ position_or_len (λ b. eqb b c) s
before-position c [] = refl
before-position c (b ∷ s) = go (eqb b c) (before-position c s)
  where
    go : (t : Bool) → bytes_before c s ≡ position_or_len (λ b. eqb b c) s → cond t 0 (suc (bytes_before c s)) ≡ cond (not t) (1 + position_or_len (λ b. eqb b c) s) 0
    go true ih = refl
    go false ih = omega arith

-- where it is found, and where not
pub cut_found : (c : ℕ) (s : List ℕ) (i : ℕ) → position (λ b. eqb b c) s ≡ Some i → (bytes_before c s ≡ i) × (i < length s)
cut_found c s i = rw (← before-position c s) (go (ltb (bytes_before c s) (length s)) refl)
  where
    go : (t : Bool) → ltb (bytes_before c s) (length s) ≡ t → cond t (Some (bytes_before c s)) None ≡ Some i → (bytes_before c s ≡ i) × (i < length s)
    go true p q = let e : bytes_before c s ≡ i = cc in (e, omega (arith, ltb-true (bytes_before c s) (length s) p))
    go false p q = absurd (cc)

pub cut_none : (c : ℕ) (s : List ℕ) → position (λ b. eqb b c) s ≡ None → bytes_before c s ≡ length s
cut_none c s = rw (← before-position c s) (go (ltb (bytes_before c s) (length s)) refl)
  where
    go : (t : Bool) → ltb (bytes_before c s) (length s) ≡ t → cond t (Some (bytes_before c s)) None ≡ None → bytes_before c s ≡ length s
    go true p q = absurd (cc)
    go false p q = omega (arith, ltb-false (bytes_before c s) (length s) p, before_le c s)

-- ---- counting a byte

pub occurrences-append : (c : ℕ) (s t : List ℕ) → occurrences c (s ++ t) ≡ occurrences c s + occurrences c t
occurrences-append c [] t = sym (zero-add (occurrences c t))
occurrences-append c (b ∷ s) t = rw (occurrences-append c s t) (omega arith)

pub occurrences_sum : (c : ℕ) (s : List ℕ) → sum_by (λ b. indicator (eqb b c)) s ≡ occurrences c s
occurrences_sum c [] = refl
occurrences_sum c (b ∷ s) = sum_by-cons (λ b. indicator (eqb b c)) b s ∙ ap (λ (n : ℕ). indicator (eqb b c) + n) (occurrences_sum c s)

pub occurrences_le : (c : ℕ) (s : List ℕ) → occurrences c s ≤ length s
occurrences_le c [] = omega arith
occurrences_le c (b ∷ s) = go (eqb b c) (occurrences_le c s)
  where
    go : (t : Bool) → occurrences c s ≤ length s → indicator t + occurrences c s ≤ suc (length s)
    go true h = omega arith
    go false h = omega arith

-- a byte is not c where there is no c, and there is none after it
pub occurrences_none_head : (c b : ℕ) (s : List ℕ) → occurrences c (b ∷ s) ≡ 0 → eqb b c ≡ false
occurrences_none_head c b s h = go (eqb b c) h
  where
    go : (t : Bool) → indicator t + occurrences c s ≡ 0 → t ≡ false
    go true q = absurd (omega arith)
    go false q = refl

pub occurrences_none_tail : (c b : ℕ) (s : List ℕ) → occurrences c (b ∷ s) ≡ 0 → occurrences c s ≡ 0
occurrences_none_tail c b s h = omega arith

-- ---- the same bytes

-- the test passes exactly on equal byte strings
pub same_refl : (s : List ℕ) → same_bytes s s ≡ true
same_refl [] = refl
same_refl (b ∷ s) = rw (eq-eqb b b refl) (same_refl s)

pub same_equal : (s t : List ℕ) → same_bytes s t ≡ true → s ≡ t
same_equal [] [] h = refl
same_equal [] (b ∷ t) h = absurd (false≢true h)
same_equal (a ∷ s) [] h = absurd (false≢true h)
same_equal (a ∷ s) (b ∷ t) h = ap₂ (λ (x : ℕ) (l : List ℕ). x ∷ l) (eqb-true a b (and_left (eqb a b) (same_bytes s t) h)) (same_equal s t (and_right (eqb a b) (same_bytes s t) h))

pub same_exactly : (s t : List ℕ) → (same_bytes s t ≡ true) ↔ (s ≡ t)
same_exactly s t = (same_equal s t, (λ e. rw e (same_refl t)))

-- ---- no bytes

pub empty_exactly : (s : List ℕ) → (is_empty s ≡ true) ↔ (s ≡ [])
empty_exactly s = (none s, (λ e. ap is_empty e))
  where
    none : (s : List ℕ) → is_empty s ≡ true → s ≡ []
    none [] q = refl
    none (b ∷ s) q = absurd (false≢true q)
