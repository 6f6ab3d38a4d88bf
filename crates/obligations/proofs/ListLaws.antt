-- Laws of lists of any kind: what stands at a place of a list is one of its elements, and what a walk over a list has come to. Assumes nothing.
use Rattle.std.proofs.Common.{ℕ, zero, suc, ◌<◌, ◌≤◌, ◌+◌, arith, List, [], ◌∷◌, ◌≡◌, refl, length, get_or, drop}
use mathlib.Core.List.{Memᴰ}
use Rattle.std.proofs.lemmas.List.{drop_more}

pub member-at : {A : Type 0} (l : List A) (i : ℕ) (d : A) → i < length l → Memᴰ (get_or l i d) l
member-at [] i d h = absurd (omega arith)
member-at (x ∷ xs) zero d h = Memᴰ.head refl
member-at (x ∷ xs) (suc i) d h = Memᴰ.tail (member-at xs i d (omega arith))

-- the element a walk over a list has come to, by what is left of the list
drop_inside : {A : Type 0} (l : List A) (n : ℕ) (x : A) (r : List A) → drop n l ≡ x ∷ r → n < length l
drop_inside [] zero x r e = cc
drop_inside [] (suc n) x r e = cc
drop_inside (y ∷ ys) zero x r e = omega arith
drop_inside (y ∷ ys) (suc n) x r e = let h = drop_inside ys n x r e in omega arith

pub drop_head : {A : Type 0} (l : List A) (n : ℕ) (x : A) (r : List A) (d : A) → drop n l ≡ x ∷ r → (n < length l) × (get_or l n d ≡ x) × (drop (n + 1) l ≡ r)
drop_head l n x r d e =
    let h = drop_inside l n x r e in
    let m = drop_more l n d h in
    (h, cc, cc)

pub drop_end : {A : Type 0} (l : List A) (n : ℕ) → drop n l ≡ [] → length l ≤ n
drop_end [] n e = omega arith
drop_end (y ∷ ys) zero e = cc
drop_end (y ∷ ys) (suc n) e = let h = drop_end ys n e in omega arith
