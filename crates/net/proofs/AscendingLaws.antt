-- Laws of ascending lists: one is determined by its elements, and is no longer than one that holds them all. Assumes nothing.
use Prim.Native.Nat.{ℕ, ◌<◌, ◌≤◌}
use native.Mathlib.Nat.{le_refl}
use native.Mathlib.Decide.{ℕ_discrete as dec_eq, dec_lt}
use native.Mathlib.Omega.{arith}
use mathlib.Core.Path.{◌≡◌, refl, sym, ap}
use mathlib.Core.Bool.{true}
use mathlib.Core.List.{List, [], ◌∷◌}
use mathlib.Core.Logic.{⊎_elim}
use lib.Dec.{eqb}
use lib.ListN.{length}
use borrow.Author.Tests.{eqb-true, lt-ltb}
use Rattle.obligations.proofs.BoolLaws.{false-not-true, or_cases}
use Rattle.net.specs.Lists.{listed, ascends_above}
use Rattle.net.proofs.PlaceLaws.{Ascending, above_ascending}
use Rattle.net.proofs.ListLaws.{none_listed, listed-first, listed-later, ascends_tail, ascends-not-listed}

abbrev Among : List ℕ → List ℕ → Type 0
Among l k = (m : ℕ) → listed m l ≡ true → listed m k ≡ true

-- an element of a list is its head or one of its tail
listed_tail : (m x : ℕ) (xs : List ℕ) → listed m (x ∷ xs) ≡ true → (x ≡ m → ⊥) → listed m xs ≡ true
unfolding listed
listed_tail m x xs h d = ⊎_elim (λ e. absurd (d (eqb-true x m e))) (λ e. e) (or_cases (eqb x m) (listed m xs) h)

ascends_from_lem : (p x : ℕ) (xs : List ℕ) → p < x → ascends_above x xs ≡ true → ascends_above p (x ∷ xs) ≡ true
unfolding ascends_above
ascends_from_lem p x xs h t = rw (lt-ltb p x h) t

-- an element below the first is not in the list
below_first : (m x : ℕ) (xs : List ℕ) → m < x → ascends_above x xs ≡ true → listed m (x ∷ xs) ≡ true → ⊥
below_first m x xs h t e = false-not-true (ascends-not-listed m m (x ∷ xs) (le_refl m) (ascends_from_lem m x xs h t)) e

-- the tails of lists with the same head
among_tails : (x : ℕ) (xs ys : List ℕ) → ascends_above x xs ≡ true → Among (x ∷ xs) (x ∷ ys) → Among xs ys
among_tails x xs ys t f m h =
    listed_tail m x ys (f m (listed-later m x xs h)) (λ e. false-not-true (ascends-not-listed x m xs (omega arith) t) h)

pub ascending-within : (p q : ℕ) (l k : List ℕ) → ascends_above p l ≡ true → ascends_above q k ≡ true → Among l k → length l ≤ length k
ascending-within p q [] k a b f = omega arith
ascending-within p q (x ∷ xs) [] a b f = absurd (false-not-true (none_listed x) (f x (listed-first x xs)))
ascending-within p q (x ∷ xs) (y ∷ ys) a b f =
    let s = ascends_tail p x xs a in
    let t = ascends_tail q y ys b in
    elim (dec_eq y x) [
      | yes e ↦
          let n = ascending-within x y xs ys s t (among_tails x xs ys s (rw e at f)) in omega arith
      | no d ↦
          let i = listed_tail x y ys (f x (listed-first x xs)) d in
          elim (dec_lt y x) [
            | yes u ↦
                let n = ascending-within y y (x ∷ xs) ys (ascends_from_lem y x xs u s) t (λ m h. listed_tail m y ys (f m h) (λ e. below_first y x xs u s (rw (sym e) at h))) in omega arith
            | no u ↦ absurd (false-not-true (ascends-not-listed y x ys (omega arith) t) i)
          ]
    ]

pub ascending-same : (l k : List ℕ) → Ascending l → Ascending k → Among l k → Among k l → l ≡ k
ascending-same [] [] a b f g = refl
ascending-same [] (y ∷ ys) a b f g = absurd (false-not-true (none_listed y) (g y (listed-first y ys)))
ascending-same (x ∷ xs) [] a b f g = absurd (false-not-true (none_listed x) (f x (listed-first x xs)))
ascending-same (x ∷ xs) (y ∷ ys) a b f g = elim (dec_eq x y) [
  | yes e ↦
      rw (← e)
      (ap (◌∷◌ x) (ascending-same xs ys (above_ascending x xs a) (above_ascending y ys b) (among_tails x xs ys a (rw (← e) at f)) (among_tails x ys xs (rw (← e) at b) (rw (← e) at g))))
  | no d ↦ elim (dec_lt x y) [
    | yes u ↦ absurd (below_first x y ys u b (f x (listed-first x xs)))
    | no u ↦ absurd (below_first y x xs (omega arith) a (g y (listed-first y ys)))
  ]
]
