-- The place of a set on an ascending side, and the counts beside the sets: a set that is there stands at its place, and its
-- count is the one at that place; the count of each set determines the list of counts; an insertion keeps every count, and a raise adds
-- one to its own. Each goes along the two lists. Assumes nothing.
use Prim.Native.Nat.{ℕ, zero, suc, ◌+◌, ◌<◌, ◌≤◌}
use native.Mathlib.Decide.{ℕ_discrete as dec_eq, dec_lt}
use native.Mathlib.Omega.{arith}
use mathlib.Core.Path.{◌≡◌, refl, sym, ap, ◌∙◌}
use mathlib.Core.Bool.{true, false}
use mathlib.Core.List.{List, [], ◌∷◌}
use mathlib.Core.Logic.{⊎_elim}
use lib.Dec.{eqb}
use lib.ListN.{length, get_or, set}
use borrow.Author.Tests.{lt-ltb, le-ltb, eq-eqb, ne_eqb, eqb-true}
use Rattle.obligations.specs.Tests.{indicator}
use Rattle.obligations.specs.State.{total}
use Rattle.obligations.proofs.BoolLaws.{false-not-true, or_neither, and_left, and_right}
use Rattle.net.specs.Lists.{listed, place_in, insert_at, ascends_above, zeros}
use Rattle.net.specs.Sides.{count_in}
use Rattle.net.proofs.ListLaws.{none_listed, listed_cases, listed-later, listed-first, ascends_tail, ascends-not-listed}

-- strictly ascending, whatever the first element is
abbrev pub Ascending : List ℕ → Type 0
Ascending [] = Unit {0}
Ascending (x ∷ xs) = ascends_above x xs ≡ true

pub above_ascending : (p : ℕ) (l : List ℕ) → ascends_above p l ≡ true → Ascending l
above_ascending p [] h = tt
above_ascending p (x ∷ xs) h = ascends_tail p x xs h

pub one_ascends : (x : ℕ) → Ascending (x ∷ [])
unfolding ascends_above
one_ascends x = refl

-- an element that isn't above the first is the first
at_first : (m x : ℕ) (xs : List ℕ) → Ascending (x ∷ xs) → listed m (x ∷ xs) ≡ true → m ≤ x → m ≡ x
at_first m x xs a i l = ⊎_elim (λ e. e) (λ t. absurd (false-not-true (ascends-not-listed x m xs l a) t)) (listed_cases m x xs i)

-- one above the first is behind it
behind-first : (m x : ℕ) (xs : List ℕ) → listed m (x ∷ xs) ≡ true → x < m → listed m xs ≡ true
behind-first m x xs i l = ⊎_elim (λ e. absurd (omega arith)) (λ t. t) (listed_cases m x xs i)

-- ---- the place

pub listed-place : (m : ℕ) (l : List ℕ) → Ascending l → listed m l ≡ true → (place_in m l < length l) × (get_or l (place_in m l) 0 ≡ m)
unfolding place_in
listed-place m [] a i = absurd (false-not-true (none_listed m) i)
listed-place m (x ∷ xs) a i = elim (dec_lt x m) [
  | yes l ↦ let f = listed-place m xs (above_ascending x xs a) (behind-first m x xs i l) in rw (lt-ltb x m l) (omega (arith, f.0), f.1)
  | no l ↦ rw (le-ltb x m (omega arith)) (omega arith, sym (at_first m x xs a i (omega arith)))
]

pub place-listed : (m i : ℕ) (l : List ℕ) → i < length l → get_or l i 0 ≡ m → listed m l ≡ true
place-listed m i [] h e = absurd (omega arith)
place-listed m zero (x ∷ xs) h e = rw (sym e) (listed-first x xs)
place-listed m (suc i) (x ∷ xs) h e = listed-later m x xs (place-listed m i xs (omega arith) e)

-- ---- the counts

-- a set that isn't there has count 0
pub count_absent : (m : ℕ) (ms cs : List ℕ) → listed m ms ≡ false → count_in m ms cs ≡ 0
unfolding count_in listed
count_absent m [] cs d = refl
count_absent m (x ∷ xs) [] d = refl
count_absent m (x ∷ xs) (c ∷ cs) d = let n = or_neither (eqb x m) (listed m xs) d in rw n.0 (count_absent m xs cs n.1)

-- where every count is 0, each set has 0
pub count_none : (m : ℕ) (ms cs : List ℕ) → ((i : ℕ) → get_or cs i 0 ≡ 0) → count_in m ms cs ≡ 0
unfolding count_in
count_none m [] cs z = refl
count_none m (x ∷ xs) [] z = refl
count_none m (x ∷ xs) (c ∷ cs) z = elim (dec_eq x m) [ yes e ↦ rw (eq-eqb x m e) (z 0) | no e ↦ rw (ne_eqb x m e) (count_none m xs cs (λ i. z (suc i))) ]

-- a set that is there has the count at its place
pub count_at : (m : ℕ) (ms cs : List ℕ) → Ascending ms → length cs ≡ length ms → listed m ms ≡ true → count_in m ms cs ≡ get_or cs (place_in m ms) 0
unfolding count_in place_in
count_at m [] cs a n i = absurd (false-not-true (none_listed m) i)
count_at m (x ∷ xs) [] a n i = absurd (omega arith)
count_at m (x ∷ xs) (c ∷ cs) a n i = elim (dec_lt x m) [
  | yes l ↦ rw (lt-ltb x m l, ne_eqb x m (λ e. omega arith)) (count_at m xs cs (above_ascending x xs a) (omega arith) (behind-first m x xs i l))
  | no l ↦ rw (le-ltb x m (omega arith), eq-eqb x m (sym (at_first m x xs a i (omega arith))))
]

-- a new set comes with count 0, and each other keeps its own
pub count-insert : (x i m : ℕ) (ms cs : List ℕ) → length cs ≡ length ms → listed m ms ≡ false → count_in x (insert_at i m ms) (insert_at i 0 cs) ≡ count_in x ms cs
unfolding count_in insert_at listed
count-insert x zero m ms cs n d = elim (dec_eq m x) [
  | yes e ↦ rw (eq-eqb m x e) (sym (count_absent x ms cs (rw e at d)))
  | no e ↦ rw (ne_eqb m x e)
]
count-insert x (suc i) m [] [] n d = elim (dec_eq m x) [ yes e ↦ rw (eq-eqb m x e) | no e ↦ rw (ne_eqb m x e) ]
count-insert x (suc i) m [] (c ∷ cs) n d = absurd (omega arith)
count-insert x (suc i) m (y ∷ ys) [] n d = absurd (omega arith)
count-insert x (suc i) m (y ∷ ys) (c ∷ cs) n d = rw (count-insert x i m ys cs (omega arith) (or_neither (eqb y m) (listed m ys) d).1)

-- counts beside the same ascending sets are the same list if each set has the same count
pub counts_determined : (ms cs ds : List ℕ) → Ascending ms → length cs ≡ length ms → length ds ≡ length ms → ((m : ℕ) → count_in m ms cs ≡ count_in m ms ds) → cs ≡ ds
unfolding count_in
counts_determined [] [] [] a l k e = refl
counts_determined [] [] (d ∷ ds) a l k e = absurd (omega arith)
counts_determined [] (c ∷ cs) ds a l k e = absurd (omega arith)
counts_determined (x ∷ xs) [] ds a l k e = absurd (omega arith)
counts_determined (x ∷ xs) (c ∷ cs) [] a l k e = absurd (omega arith)
counts_determined (x ∷ xs) (c ∷ cs) (d ∷ ds) a l k e = rw (rw (eq-eqb x x refl) at (e x)) (ap (◌∷◌ d) (counts_determined xs cs ds (above_ascending x xs a) (omega arith) (omega arith) behind))
  where
    behind : (m : ℕ) → count_in m xs cs ≡ count_in m xs ds
    behind m = elim (dec_eq x m) [
      | yes q ↦ let n = ascends-not-listed x m xs (omega arith) a in count_absent m xs cs n ∙ sym (count_absent m xs ds n)
      | no q ↦ rw (ne_eqb x m q) at (e m)
    ]

-- one more use of m
pub count-raise : (x m : ℕ) (ms cs : List ℕ) → Ascending ms → length cs ≡ length ms → listed m ms ≡ true
    → count_in x ms (set cs (place_in m ms) (get_or cs (place_in m ms) 0 + 1)) ≡ count_in x ms cs + indicator (eqb m x)
unfolding count_in place_in
count-raise x m [] cs a n i = absurd (false-not-true (none_listed m) i)
count-raise x m (y ∷ ys) [] a n i = absurd (omega arith)
count-raise x m (y ∷ ys) (c ∷ cs) a n i = elim (dec_lt y m) [
  | yes l ↦ elim (dec_eq y x) [
    | yes e ↦ rw (lt-ltb y m l, eq-eqb y x e, ne_eqb m x (λ q. omega arith)) (omega arith)
    | no e ↦ rw (lt-ltb y m l, ne_eqb y x e) (count-raise x m ys cs (above_ascending y ys a) (omega arith) (behind-first m y ys i l))
  ]
  | no l ↦
      let q = at_first m y ys a i (omega arith) in
      elim (dec_eq y x) [
        | yes e ↦ rw (le-ltb y m (omega arith), eq-eqb y x e, eq-eqb m x (q ∙ e))
        | no e ↦ rw (le-ltb y m (omega arith), ne_eqb y x e, ne_eqb m x (λ w. e (sym q ∙ w))) (omega arith)
      ]
]

-- ---- their sum

pub total-insert : (i : ℕ) (cs : List ℕ) → total (insert_at i 0 cs) ≡ total cs
unfolding total insert_at
total-insert zero cs = omega arith
total-insert (suc i) [] = omega arith
total-insert (suc i) (c ∷ cs) = omega (arith, total-insert i cs)

pub total-zeros : (cs : List ℕ) → zeros cs ≡ true → total cs ≡ 0
unfolding total zeros
total-zeros [] z = refl
total-zeros (c ∷ cs) z = omega (arith, eqb-true c 0 (and_left (eqb c 0) (zeros cs) z), total-zeros cs (and_right (eqb c 0) (zeros cs) z))
