-- Lists of masks and of counts: tests that compute, and insertion into a list.
use Rattle.std.specs.Prelude.{ℕ, zero, suc, ◌≤◌, ◌≡◌, Bool, true, cond, not, ◌&&◌, List, [], ◌∷◌, ◌++◌, ltb, eqb, length, take, drop, replicate}
use Rattle.std.specs.List.{list_any, list_all}

-- the test passes for each number below n
unfoldable pub all_below : ℕ → (ℕ → Bool) → Bool
all_below zero test = true
all_below (suc n) test = all_below n test && test n

-- m is one of the list's elements
unfoldable pub listed : ℕ → List ℕ → Bool
listed m xs = list_any (λ x. eqb x m) xs

-- each element of the first list is one of the second's
unfoldable pub all_listed : List ℕ → List ℕ → Bool
all_listed xs ys = list_all (λ x. listed x ys) xs

-- no element occurs twice
unfoldable pub distinct : List ℕ → Bool
distinct [] = true
distinct (x ∷ xs) = not (listed x xs) && distinct xs

-- at most n numbers have the property: every list of distinct ones is at most so long
abbrev pub AtMost : ℕ → (ℕ → Type 0) → Type 0
AtMost n P = (ms : List ℕ) → distinct ms ≡ true → ((m : ℕ) → listed m ms ≡ true → P m) → length ms ≤ n

-- the list strictly ascends, and its first element is above p
unfoldable pub ascends_above : ℕ → List ℕ → Bool
ascends_above p [] = true
ascends_above p (x ∷ xs) = ltb p x && ascends_above x xs

-- each element is zero
unfoldable pub zeros : List ℕ → Bool
zeros xs = list_all (λ x. eqb x 0) xs

-- the list with x in place i, and those from there on moved behind it
unfoldable pub insert_at : ℕ → ℕ → List ℕ → List ℕ
insert_at i x l = take i l ++ (x ∷ drop i l)

-- the place of m in an ascending list: behind those below it
unfoldable pub place_in : ℕ → List ℕ → ℕ
place_in m [] = 0
place_in m (x ∷ xs) = cond (ltb x m) (suc (place_in m xs)) 0

-- an ascending list with m, which is none of its elements, in its place
unfoldable pub insert : ℕ → List ℕ → List ℕ
insert m l = insert_at (place_in m l) m l

-- n zeros
abbrev pub blank : ℕ → List ℕ
blank n = replicate n 0

-- the list with v written over it from place i on
abbrev pub splice : List ℕ → ℕ → List ℕ → List ℕ
splice l i v = take i l ++ (v ++ drop (length v) (drop i l))
