-- Laws of lists in which no element occurs twice: such a list is no longer than one that holds its elements, since each of them
-- can be crossed out there once; an ascending list is such a list. So the number of sets with a property is at most n exactly if
-- a list of just them, none twice, is at most so long. Assumes nothing.
use Prim.Native.Nat.{ℕ, suc, ◌≤◌}
use native.Mathlib.Decide.{ℕ_discrete as dec_eq}
use native.Mathlib.Omega.{arith}
use mathlib.Core.Path.{◌≡◌, refl, sym, subst, ◌∙◌}
use mathlib.Core.Bool.{true, false, not, cond}
use mathlib.Core.List.{List, [], ◌∷◌}
use mathlib.Core.Logic.{◌↔◌, ⊎_elim}
use lib.Dec.{eqb}
use lib.ListN.{length}
use borrow.Author.Tests.{eqb-true, eq-eqb, ne_eqb, not-true}
use Rattle.obligations.proofs.BoolLaws.{and_left, and_right, or_right, or_cases, false-not-true}
use Rattle.net.specs.Lists.{listed, distinct, AtMost, ascends_above}
use Rattle.net.proofs.ListLaws.{listed-first, listed-later, ascends_tail, ascends-not-listed}

-- ---- crossing out

-- the list without the first x in it
crossed : ℕ → List ℕ → List ℕ
crossed x [] = []
crossed x (y ∷ ys) = cond (eqb y x) ys (y ∷ crossed x ys)

length_crossed : (x : ℕ) (l : List ℕ) → listed x l ≡ true → suc (length (crossed x l)) ≡ length l
unfolding crossed listed
length_crossed x [] h = absurd (false-not-true refl h)
length_crossed x (y ∷ ys) h = elim (dec_eq y x) [
  | yes e ↦ rw (eq-eqb y x e)
  | no d ↦ rw (ne_eqb y x d) (rw (length_crossed x ys (rw (ne_eqb y x d) at h)))
]

listed_crossed : (m x : ℕ) (l : List ℕ) → (x ≡ m → ⊥) → listed m l ≡ true → listed m (crossed x l) ≡ true
unfolding crossed listed
listed_crossed m x [] n h = h
listed_crossed m x (y ∷ ys) n h = elim (dec_eq y x) [
  | yes e ↦ rw (eq-eqb y x e) (⊎_elim (λ k. absurd (n (sym e ∙ eqb-true y m k))) (λ k. k) (or_cases (eqb y m) (listed m ys) h))
  | no d ↦ rw (ne_eqb y x d) (⊎_elim (λ k. rw k) (λ k. or_right (eqb y m) (listed_crossed m x ys n k)) (or_cases (eqb y m) (listed m ys) h))
]

-- ---- no longer than a list of the elements

pub distinct-within : (ms l : List ℕ) → distinct ms ≡ true → ((m : ℕ) → listed m ms ≡ true → listed m l ≡ true) → length ms ≤ length l
unfolding distinct
distinct-within [] l d f = omega arith
distinct-within (x ∷ xs) l d f =
    let n : listed x xs ≡ false = not-true (listed x xs) (and_left (not (listed x xs)) (distinct xs) d) in
    let k = length_crossed x l (f x (listed-first x xs)) in
    let r = distinct-within xs (crossed x l) (and_right (not (listed x xs)) (distinct xs) d)
    (λ m h. listed_crossed m x l (λ e. false-not-true n (subst (λ (y : ℕ). listed y xs ≡ true) (sym e) h)) (f m (listed-later m x xs h))) in
    omega arith

-- ---- lists without an element twice

pub distinct_one : (x : ℕ) → distinct (x ∷ []) ≡ true
unfolding distinct listed
distinct_one x = refl

pub distinct_more : (x : ℕ) (xs : List ℕ) → listed x xs ≡ false → distinct xs ≡ true → distinct (x ∷ xs) ≡ true
unfolding distinct
distinct_more x xs n d = rw (n, d)

pub ascending-distinct : (p : ℕ) (l : List ℕ) → ascends_above p l ≡ true → distinct l ≡ true
unfolding distinct
ascending-distinct p [] a = refl
ascending-distinct p (x ∷ xs) a =
    let t = ascends_tail p x xs a in rw (ascends-not-listed x x xs (omega arith) t, ascending-distinct x xs t)

-- ---- how many have a property

-- fewer have a property that says more
pub fewer : (n : ℕ) (P Q : ℕ → Type 0) → ((m : ℕ) → P m → Q m) → AtMost n Q → AtMost n P
fewer n P Q f h ms d g = h ms d (λ m i. f m (g m i))

-- a list without an element twice, which are just those with the property, says how many have it
pub at_most-listed : (n : ℕ) (P : ℕ → Type 0) (l : List ℕ) → distinct l ≡ true → ((m : ℕ) → P m ↔ (listed m l ≡ true)) → (length l ≤ n) ↔ AtMost n P
at_most-listed n P l d f = (
  (λ h ms e g. let k = distinct-within ms l e (λ m i. (f m).0 (g m i)) in omega arith),
  (λ h. h l d (λ m i. (f m).1 i)),
)
