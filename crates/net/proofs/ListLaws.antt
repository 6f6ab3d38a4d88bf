-- Laws of the tests of lists: for each test, what it says of each element, and of `listed` and `zeros` what they say of a list from place
-- i on (found here, decided by the rest, at the end), which is what a loop over the list needs. Assumes nothing.
use Prim.Native.Nat.{ℕ, zero, suc, ◌+◌, ◌-◌, ◌<◌, ◌≤◌}
use native.Mathlib.Nat.{le_refl, not-suc-le-zero, sub-zero, zero-sub, suc-sub-suc}
use native.Mathlib.Numerals.{add-one}
use native.Mathlib.Omega.{arith}
use mathlib.Core.Path.{◌≡◌, refl, sym, ap, ◌∙◌}
use mathlib.Core.Bool.{Bool, true, false, not, ◌&&◌, ◌||◌, and_assoc}
use mathlib.Core.Logic.{◌⊎◌, inl, inr, ⊎_elim}
use mathlib.Core.List.{List, [], ◌∷◌, ◌++◌}
use lib.Bits.{bit_or, or_add_and, and_le_l, and_le_r}
use lib.Dec.{ltb, eqb}
use lib.ListN.{length, take, drop, get_or, length-take, length-drop, drop_of_length-le}
use lib.Seq.{take_all, take-nil, take-append-add, length-take-le, get_or-take, get_or-drop, drop-cons}
use borrow.Author.Tests.{ltb-true, eqb-true, lt-ltb, eq-eqb, ne_eqb}
use Rattle.std.proofs.Common.{Some}
use Rattle.std.specs.List.{slice_get}
use Rattle.std.specs.Option.{option_eq}
use Rattle.obligations.proofs.BoolLaws.{true_or_false, and_left, and_right, and_both, same_test, or_right, or_cases, false-not-true}
use Rattle.net.specs.Lists.{listed, all_listed, ascends_above, zeros, blank}

-- ---- parts of a list

pub length_part : (l : List ℕ) (i n : ℕ) → i + n ≤ length l → length (take n (drop i l)) ≡ n
length_part l i n h = length-take-le n (drop i l) (simp length-drop (omega arith))

pub part_to_end : (l : List ℕ) (i : ℕ) → take (length l - i) (drop i l) ≡ drop i l
part_to_end l i = take_all (length l - i) (drop i l) (rw length-drop (le_refl _))

pub drop-take : (k n : ℕ) (l : List ℕ) → drop k (take n l) ≡ take (n - k) (drop k l)
drop-take zero n l = rw sub-zero
drop-take (suc k) zero l = rw (zero-sub)
drop-take (suc k) (suc n) [] = rw (take-nil)
drop-take (suc k) (suc n) (x ∷ xs) = rw (suc-sub-suc) (drop-take k n xs)

pub take-append_over : (n : ℕ) (l other : List ℕ) → length l ≤ n → take n (l ++ other) ≡ l ++ take (n - length l) other
take-append_over n l other h =
    let e : length l + (n - length l) ≡ n = omega arith in
    sym (ap (λ (k : ℕ). take k (l ++ other)) e) ∙ take-append-add l other (n - length l)

-- ---- listed

listed-from : (m i : ℕ) (l : List ℕ) → i < length l → listed m (drop i l) ≡ (eqb (get_or l i 0) m || listed m (drop (i + 1) l))
unfolding listed
listed-from m i l h = rw (add-one, drop-cons l i 0 h)

pub listed_here : (m i : ℕ) (l : List ℕ) → i < length l → get_or l i 0 ≡ m → listed m (drop i l) ≡ true
listed_here m i l h e = rw (listed-from m i l h, eq-eqb _ _ e)

pub listed_next : (m i : ℕ) (l : List ℕ) → i < length l → (get_or l i 0 ≡ m → ⊥) → listed m (drop i l) ≡ listed m (drop (i + 1) l)
listed_next m i l h e = rw (listed-from m i l h, ne_eqb _ _ e)

pub listed-end : (m i : ℕ) (l : List ℕ) → length l ≤ i → listed m (drop i l) ≡ false
unfolding listed
listed-end m i l h = rw (drop_of_length-le l h)

pub listed_one : (m x : ℕ) → listed m (x ∷ []) ≡ true → m ≡ x
unfolding listed
listed_one m x h = ⊎_elim (λ e. sym (eqb-true x m e)) (λ e. absurd (false-not-true refl e)) (or_cases (eqb x m) false h)

pub one_listed : (x : ℕ) → listed x (x ∷ []) ≡ true
unfolding listed
one_listed x = rw (eq-eqb x x refl)

pub none_listed : (m : ℕ) → listed m [] ≡ false
unfolding listed
none_listed m = refl

-- ---- all_listed

pub all_listed-at : (m : ℕ) (l other : List ℕ) → all_listed l other ≡ true → listed m l ≡ true → listed m other ≡ true
unfolding all_listed listed
all_listed-at m [] other h k = absurd (false-not-true refl k)
all_listed-at m (x ∷ xs) other h k =
    ⊎_elim
    (λ e. rw (eqb-true x m e) at (and_left (listed x other) (all_listed xs other) h))
    (λ e. all_listed-at m xs other (and_right (listed x other) (all_listed xs other) h) e)
    (or_cases (eqb x m) (listed m xs) k)

pub at-all_listed : (l other : List ℕ) → ((m : ℕ) → listed m l ≡ true → listed m other ≡ true) → all_listed l other ≡ true
unfolding all_listed listed
at-all_listed [] other h = refl
at-all_listed (x ∷ xs) other h = rw (h x (rw (eq-eqb x x refl)), at-all_listed xs other (λ m e. h m (or_right (eqb x m) e)))

-- ---- ascends_above

pub ascends_head : (p x : ℕ) (xs : List ℕ) → ascends_above p (x ∷ xs) ≡ true → p < x
unfolding ascends_above
ascends_head p x xs h = ltb-true p x (and_left (ltb p x) (ascends_above x xs) h)

pub ascends_tail : (p x : ℕ) (xs : List ℕ) → ascends_above p (x ∷ xs) ≡ true → ascends_above x xs ≡ true
unfolding ascends_above
ascends_tail p x xs h = and_right (ltb p x) (ascends_above x xs) h

pub ascends-at : (p : ℕ) (l : List ℕ) → ascends_above p l ≡ true → (i : ℕ) → i + 1 < length l → get_or l i 0 < get_or l (i + 1) 0
ascends-at p l h i k = rw (add-one i) (go p l h i (omega arith))
  where
    go : (p : ℕ) (l : List ℕ) → ascends_above p l ≡ true → (i : ℕ) → suc i < length l → get_or l i 0 < get_or l (suc i) 0
    go p [] h i k = absurd (not-suc-le-zero k)
    go p (x ∷ []) h i k = omega arith
    go p (x ∷ y ∷ ys) h zero k = ascends_head x y ys (ascends_tail p x (y ∷ ys) h)
    go p (x ∷ y ∷ ys) h (suc i) k = go x (y ∷ ys) (ascends_tail p x (y ∷ ys) h) i (omega arith)

pub at-ascends : (p : ℕ) (l : List ℕ) → (0 < length l → p < get_or l 0 0) → ((i : ℕ) → suc i < length l → get_or l i 0 < get_or l (suc i) 0) → ascends_above p l ≡ true
unfolding ascends_above
at-ascends p [] f h = refl
at-ascends p (x ∷ xs) f h = rw (lt-ltb p x (f (omega arith))) (at-ascends x xs (λ k. h 0 (omega arith)) (λ i k. h (suc i) (omega arith)))

-- of a list whose elements are each below the next, its first element tells; one that isn't below the next tells too
pub ascends-first : (l : List ℕ) → ((i : ℕ) → i + 1 < length l → get_or l i 0 < get_or l (i + 1) 0) → not (option_eq eqb (slice_get l 0) (Some 0)) ≡ ascends_above 0 l
unfolding ascends_above
ascends-first [] h = refl
ascends-first (x ∷ xs) h = above x (at-ascends x xs (λ k. h 0 (omega arith)) (λ i k. rw add-one at (h (suc i) (omega arith))))
  where
    above : (x : ℕ) {rest : Bool} → rest ≡ true → not (eqb x 0) ≡ (ltb 0 x && rest)
    above zero e = refl
    above (suc x) e = rw (lt-ltb 0 (suc x) (omega arith), ne_eqb (suc x) 0 (omega arith)) (sym e)

pub ascends_fails : (l : List ℕ) (i : ℕ) → i + 1 < length l → ltb (get_or l i 0) (get_or l (i + 1) 0) ≡ false → ascends_above 0 l ≡ false
ascends_fails l i k h = ⊎_elim (λ t. absurd (false-not-true h (lt-ltb _ _ (ascends-at 0 l t i k)))) (λ f. f) (true_or_false (ascends_above 0 l))

-- no element of an ascending list is at most its lower bound
pub ascends-not-listed : (p q : ℕ) (l : List ℕ) → q ≤ p → ascends_above p l ≡ true → listed q l ≡ false
unfolding listed
ascends-not-listed p q [] k h = refl
ascends-not-listed p q (x ∷ xs) k h =
    let a = ascends_head p x xs h in
    rw (ne_eqb x q (omega arith)) (ascends-not-listed x q xs (omega arith) (ascends_tail p x xs h))

-- ---- zeros

-- two numbers together have no bit exactly if both are zero
or_none : (a b : ℕ) → eqb (bit_or a b) 0 ≡ (eqb a 0 && eqb b 0)
or_none a b =
    same_test (eqb (bit_or a b) 0) (eqb a 0 && eqb b 0)
    (λ t. let z = eqb-true (bit_or a b) 0 t in and_both (eq-eqb a 0 (omega (arith, z, or_add_and a b, and_le_r a b))) (eq-eqb b 0 (omega (arith, z, or_add_and a b, and_le_l a b))))
    (λ t. rw (eqb-true a 0 (and_left (eqb a 0) (eqb b 0) t), eqb-true b 0 (and_right (eqb a 0) (eqb b 0) t)))

-- one element more, where those before it have the bits b
pub zeros-next : (b i : ℕ) (l : List ℕ) → i < length l → (eqb b 0 && zeros (drop i l)) ≡ (eqb (bit_or b (get_or l i 0)) 0 && zeros (drop (i + 1) l))
unfolding zeros
zeros-next b i l h = rw (add-one, drop-cons l i 0 h, or_none b (get_or l i 0)) (sym (and_assoc (eqb b 0) (eqb (get_or l i 0) 0) (zeros (drop (suc i) l))))

pub zeros-end : (i : ℕ) (l : List ℕ) → length l ≤ i → zeros (drop i l) ≡ true
unfolding zeros
zeros-end i l h = rw (drop_of_length-le l h)

pub zeros-at : (l : List ℕ) → zeros l ≡ true → (i : ℕ) → get_or l i 0 ≡ 0
unfolding zeros
zeros-at [] h i = refl
zeros-at (x ∷ xs) h zero = eqb-true x 0 (and_left (eqb x 0) (zeros xs) h)
zeros-at (x ∷ xs) h (suc i) = zeros-at xs (and_right (eqb x 0) (zeros xs) h) i

pub at_zeros : (l : List ℕ) → ((i : ℕ) → i < length l → get_or l i 0 ≡ 0) → zeros l ≡ true
unfolding zeros
at_zeros [] h = refl
at_zeros (x ∷ xs) h = rw (eq-eqb x 0 (h 0 (omega arith)), at_zeros xs (λ i l. h (suc i) (omega arith)))

pub zeros-append : (l k : List ℕ) → zeros l ≡ true → zeros k ≡ true → zeros (l ++ k) ≡ true
unfolding zeros
zeros-append [] k h g = g
zeros-append (x ∷ xs) k h g = and_both (and_left (eqb x 0) (zeros xs) h) (zeros-append xs k (and_right (eqb x 0) (zeros xs) h) g)

pub zeros_part : (n k : ℕ) (l : List ℕ) → zeros l ≡ true → zeros (take n (drop k l)) ≡ true
zeros_part n k l h =
    at_zeros (take n (drop k l)) (λ i u. get_or-take n (drop k l) i 0 (omega (arith, length-take n (drop k l))) ∙ get_or-drop k l i 0 ∙ zeros-at l h (k + i))

pub zeros-behind : (k : ℕ) (l : List ℕ) → zeros l ≡ true → zeros (drop k l) ≡ true
zeros-behind k l h = at_zeros (drop k l) (λ i u. get_or-drop k l i 0 ∙ zeros-at l h (k + i))

pub zeros_more : (l : List ℕ) → zeros l ≡ true → zeros (0 ∷ l) ≡ true
unfolding zeros
zeros_more l h = h

-- it is as many zeros
pub zeros_blank : (l : List ℕ) → zeros l ≡ true → l ≡ blank (length l)
unfolding zeros
zeros_blank [] h = refl
zeros_blank (x ∷ xs) h = let e = eqb-true x 0 (and_left (eqb x 0) (zeros xs) h) in rw e (ap (λ (r : List ℕ). 0 ∷ r) (zeros_blank xs (and_right (eqb x 0) (zeros xs) h)))

pub blank-zeros : (n : ℕ) → zeros (blank n) ≡ true
unfolding zeros
blank-zeros zero = refl
blank-zeros (suc n) = blank-zeros n

-- one element fewer
pub zeros_drop : (l : List ℕ) (i : ℕ) → zeros (drop i l) ≡ true → zeros (drop (i + 1) l) ≡ true
zeros_drop l i h = at_zeros (drop (i + 1) l) (λ j k. get_or-drop (i + 1) l j 0 ∙ moved j ∙ zeros-at (drop i l) h (1 + j))
  where
    moved : (j : ℕ) → get_or l (i + 1 + j) 0 ≡ get_or (drop i l) (1 + j) 0
    moved j = let e : i + 1 + j ≡ i + (1 + j) = omega arith in rw e (sym (get_or-drop i l (1 + j) 0))

-- ---- elements, from the first on

pub listed-first : (x : ℕ) (xs : List ℕ) → listed x (x ∷ xs) ≡ true
unfolding listed
listed-first x xs = rw (eq-eqb x x refl)

pub listed-later : (m x : ℕ) (xs : List ℕ) → listed m xs ≡ true → listed m (x ∷ xs) ≡ true
unfolding listed
listed-later m x xs h = or_right (eqb x m) h

pub head_or_later : (x m : ℕ) (l : List ℕ) → listed x (m ∷ l) ≡ true → (listed x l ≡ true) ⊎ (x ≡ m)
unfolding listed
head_or_later x m l t = ⊎_elim (λ e. inr (sym (eqb-true m x e))) inl (or_cases (eqb m x) (listed x l) t)

pub some_listed : (l : List ℕ) → 0 < length l → (m : ℕ) × (listed m l ≡ true)
some_listed [] h = absurd (omega arith)
some_listed (x ∷ xs) h = (x, listed-first x xs)

pub empty_lists_none : (l : List ℕ) (m : ℕ) → length l ≡ 0 → listed m l ≡ false
empty_lists_none [] m e = none_listed m
empty_lists_none (x ∷ xs) m e = absurd (omega arith)

pub listed_cases : (m x : ℕ) (xs : List ℕ) → listed m (x ∷ xs) ≡ true → (m ≡ x) ⊎ (listed m xs ≡ true)
unfolding listed
listed_cases m x xs h = ⊎_elim (λ e. inl (sym (eqb-true x m e))) (λ e. inr e) (or_cases (eqb x m) (listed m xs) h)

pub listed_none : (m : ℕ) → listed m [] ≡ true → ⊥
unfolding listed
listed_none m h = false-not-true refl h

-- every element of a list is below a bound that each place obeys
pub listed_below : (n m : ℕ) (l : List ℕ) → ((i : ℕ) → i < length l → get_or l i 0 < n) → listed m l ≡ true → m < n
listed_below n m [] f e = absurd (listed_none m e)
listed_below n m (x ∷ xs) f e = ⊎_elim (λ q. rw q (f 0 (omega arith))) (λ q. listed_below n m xs (λ i h. f (suc i) (omega arith)) q) (listed_cases m x xs e)
