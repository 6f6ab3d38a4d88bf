-- Laws of insertion: the elements moved up by one behind the new one, and the elements, the order and the length after an
-- insertion. Each goes along the list. Assumes nothing.
use Prim.Native.Nat.{ℕ, zero, suc, ◌+◌, ◌-◌, ◌<◌, ◌≤◌}
use native.Mathlib.Nat.{le_refl}
use native.Mathlib.Numerals.{add-one}
use native.Mathlib.Decide.{dec_lt}
use native.Mathlib.Omega.{arith}
use mathlib.Core.Path.{◌≡◌, refl, sym, ap, ◌∙◌}
use mathlib.Core.Bool.{Bool, true, false, ◌||◌, or_comm, or_assoc}
use mathlib.Core.List.{List, [], ◌∷◌, ◌++◌, append_assoc}
use lib.Dec.{eqb}
use lib.ListN.{length, take, drop, get_or, set, length-drop, length-append}
use lib.Seq.{length-take-le, take-take, take-add, drop-drop, take-suc, set-append_seam}
use borrow.Author.Tests.{eqb-false, lt-ltb, le-ltb}
use Rattle.obligations.proofs.BoolLaws.{or_neither}
use Rattle.std.specs.List.{copy_within}
use Rattle.net.specs.Lists.{listed, place_in, insert_at, insert, splice, ascends_above}
use Rattle.net.proofs.ListLaws.{length_part, drop-take, ascends_head, ascends_tail}

-- ---- the place of an element

pub place-none : (m : ℕ) → place_in m [] ≡ 0
unfolding place_in
place-none m = refl

pub place-here : (m x : ℕ) (xs : List ℕ) → m ≤ x → place_in m (x ∷ xs) ≡ 0
unfolding place_in
place-here m x xs h = rw (le-ltb x m h)

pub place-behind : (m x : ℕ) (xs : List ℕ) → x < m → place_in m (x ∷ xs) ≡ place_in m xs + 1
unfolding place_in
place-behind m x xs h = rw (lt-ltb x m h) (sym (add-one (place_in m xs)))

pub place-within : (m : ℕ) (l : List ℕ) → place_in m l ≤ length l
unfolding place_in
place-within m [] = omega arith
place-within m (x ∷ xs) = elim (dec_lt x m) [
  | yes h ↦ rw (lt-ltb x m h) (omega (arith, place-within m xs))
  | no h ↦ rw (le-ltb x m (omega arith)) (omega arith)
]

-- ---- the list after it

pub length-insert_at : (i m : ℕ) (l : List ℕ) → length (insert_at i m l) ≡ length l + 1
unfolding insert_at
length-insert_at zero m l = sym (add-one (length l))
length-insert_at (suc i) m [] = refl
length-insert_at (suc i) m (x ∷ xs) = omega (arith, length-insert_at i m xs)

pub length-insert : (m : ℕ) (l : List ℕ) → length (insert m l) ≡ length l + 1
unfolding insert
length-insert m l = length-insert_at (place_in m l) m l

listed-insert_at : (x i m : ℕ) (l : List ℕ) → listed x (insert_at i m l) ≡ (eqb m x || listed x l)
unfolding listed insert_at
listed-insert_at x zero m l = refl
listed-insert_at x (suc i) m [] = refl
listed-insert_at x (suc i) m (y ∷ ys) = rw (listed-insert_at x i m ys) (swap (eqb y x) (eqb m x) (listed x ys))
  where
    swap : (a b c : Bool) → (a || (b || c)) ≡ (b || (a || c))
    swap a b c = sym (or_assoc a b c) ∙ ap (λ (d : Bool). d || c) (or_comm a b) ∙ or_assoc b a c

pub listed-insert : (x m : ℕ) (l : List ℕ) → listed x (insert m l) ≡ (eqb m x || listed x l)
unfolding insert
listed-insert x m l = listed-insert_at x (place_in m l) m l

-- it stands at its place
pub place-insert : (m : ℕ) (l : List ℕ) → place_in m (insert m l) ≡ place_in m l
unfolding insert insert_at place_in
place-insert m [] = rw (le-ltb m m (le_refl m))
place-insert m (x ∷ xs) = elim (dec_lt x m) [
  | yes l ↦ rw (lt-ltb x m l, lt-ltb x m l) (ap suc (place-insert m xs))
  | no l ↦ rw (le-ltb x m (omega arith), le-ltb m m (le_refl m))
]

pub ascends-insert : (p m : ℕ) (l : List ℕ) → p < m → ascends_above p l ≡ true → listed m l ≡ false → ascends_above p (insert m l) ≡ true
unfolding ascends_above insert insert_at place_in listed
ascends-insert p m [] k h d = rw (lt-ltb p m k)
ascends-insert p m (x ∷ xs) k h d =
    let a = ascends_head p x xs h in
    let t = ascends_tail p x xs h in
    let n = or_neither (eqb x m) (listed m xs) d in
    elim (dec_lt x m) [
      | yes l ↦ rw (lt-ltb x m l, lt-ltb p x a) (ascends-insert x m xs l t n.1)
      | no l ↦
          let q : x ≡ m → ⊥ = eqb-false x m n.0 in
          rw (le-ltb x m (omega arith), lt-ltb p m k, lt-ltb m x (omega arith)) t
    ]

-- the elements from place i up to `to` moved behind x
pub moved_splice : (l : List ℕ) (i to x : ℕ) → i ≤ to → to < length l → set (copy_within l i to (i + 1)) i x ≡ splice l i (x ∷ take (to - i) (drop i l))
moved_splice l i to x h k =
    let mid = take (to - i) (drop i l) in
    let tail = drop (i + 1 + (to - i)) l in
    let n : length (take i l) ≡ i = length-take-le i l (omega arith) in
    let w : length mid ≡ to - i = length_part l i (to - i) (omega arith) in
    let q : i + 1 + (to - i) ≡ i + suc (to - i) = omega arith in
    let seam : set (take i l ++ (get_or l i 0 ∷ (mid ++ tail))) i x ≡ take i l ++ (x ∷ (mid ++ tail)) = rw n at (set-append_seam (take i l) (get_or l i 0) (mid ++ tail) x) in
    let front : (take (i + 1) l ++ mid) ++ tail ≡ take i l ++ (get_or l i 0 ∷ (mid ++ tail)) = rw (append_assoc (take (i + 1) l) mid tail, add-one, take-suc l i 0 (omega arith), append_assoc (take i l) (get_or l i 0 ∷ []) _) in
    ap (λ (p : List ℕ). set p i x) front ∙ seam ∙ rw (w, q, drop-drop (suc (to - i)) i l)

-- an insertion at place i of the n places from s on, said of the whole list
pub splice-insert : (l : List ℕ) (s n i x : ℕ) → i ≤ n → s + n < length l
    → splice l (s + i) (x ∷ take (s + n - (s + i)) (drop (s + i) l)) ≡ splice l s (insert_at i x (take n (drop s l)))
unfolding insert_at
splice-insert l s n i x h k =
    let d = drop s l in
    let e : s + n - (s + i) ≡ n - i = omega arith in
    let long : length d ≡ length l - s = length-drop s l in
    let w : length (take (n - i) (drop i d)) ≡ n - i = length_part d i (n - i) (omega arith) in
    let v : length (take i d ++ (x ∷ take (n - i) (drop i d))) ≡ n + 1 = simp length-append (omega (arith, length-take-le i d (omega arith), w)) in
    let q : i + suc (n - i) ≡ n + 1 = omega arith in
    rw (e, take-add s i l, ← drop-drop i s l, take-take i n d h, drop-take i n d, v, w, drop-drop (suc (n - i)) i d, q, append_assoc, append_assoc)
