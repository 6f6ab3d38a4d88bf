-- The total of the counts: a possible step takes as many as x has members and adds as many as y has. Each place is lowered
-- or raised by one, and a set selects as many places as it has members. Assumes nothing.
use Rattle.std.proofs.Common.{ℕ, zero, suc, ◌+◌, ◌-◌, ◌*◌, ◌/◌, ◌%◌, ◌≤◌, ◌<◌, ◌≡◌, refl, ◌∙◌, true, List, [], ◌∷◌, map, mul-le-mul_right, arith, eq-eqb, eqb-true, eqb, lit<, length, get_or, set, length-set}
use Rattle.obligations.specs.Sets.{keep, members_from, members, size}
use Rattle.obligations.specs.Places.{places_of}
use Rattle.obligations.specs.State.{inputs, outputs, lowered, raised, possible, taken, added, after, total, all_zero}
use Rattle.obligations.proofs.BoolLaws.{and_left, and_right, and_both}
use Rattle.obligations.proofs.PlaceLaws.{Covers, covers_head, covers-next, due_covers, placed, places-size}
use Rattle.obligations.proofs.StateLaws.{length_taken}

total-lower : (d : List ℕ) (i : ℕ) → i < length d → 1 ≤ get_or d i 0 → total (set d i (get_or d i 0 - 1)) + 1 ≡ total d
unfolding total
total-lower [] i h c = absurd (omega arith)
total-lower (x ∷ xs) zero h c = omega arith
total-lower (x ∷ xs) (suc i) h c = omega (arith, total-lower xs i (omega arith) c)

pub total-raise : (d : List ℕ) (i : ℕ) → i < length d → total (set d i (get_or d i 0 + 1)) ≡ total d + 1
unfolding total
total-raise [] i h = absurd (omega arith)
total-raise (x ∷ xs) zero h = omega arith
total-raise (x ∷ xs) (suc i) h = omega (arith, total-raise xs i (omega arith))

-- each of the places is below n
Within : ℕ → List ℕ → Type 0
Within n [] = Unit {0}
Within n (i ∷ is) = (i < n) × Within n is

total_lowered : (d is : List ℕ) → length d ≡ 1024 → Within 1024 is → Covers d is → total (lowered d is) + length is ≡ total d
unfolding lowered Within
total_lowered d [] l w c = omega arith
total_lowered d (i ∷ is) l w c =
    omega (arith, total_lowered (set d i (get_or d i 0 - 1)) is (length-set d i _ ∙ l) w.1 (covers-next d i is c), total-lower d i (omega arith) (covers_head d i is c))

total-raised : (d is : List ℕ) → length d ≡ 1024 → Within 1024 is → total (raised d is) ≡ total d + length is
unfolding raised Within
total-raised d [] l w = omega arith
total-raised d (i ∷ is) l w = omega (arith, total-raised (set d i (get_or d i 0 + 1)) is (length-set d i _ ∙ l) w.1, total-raise d i (omega arith))

within-keep : (b base stride k : ℕ) (ks : List ℕ) → placed base stride k < 1024 → Within 1024 (map (placed base stride) ks) → Within 1024 (map (placed base stride) (keep b k ks))
unfolding keep Within
within-keep zero base stride k ks h w = w
within-keep (suc b) base stride k ks h w = (h, w)

within-from : (n base stride k m : ℕ) → base + (k + n) * stride < 1024 + stride → Within 1024 (map (placed base stride) (members_from n k m))
unfolding members_from Within
within-from zero base stride k m h = tt
within-from (suc n) base stride k m h =
    within-keep (m % 2) base stride k (members_from n (suc k) (m / 2)) (let l : suc k * stride ≤ (k + suc n) * stride = mul-le-mul_right stride (omega arith) in omega arith)
    (within-from n base stride (suc k) (m / 2) (omega arith))

places-within : (base stride m : ℕ) → base + 31 * stride < 1024 → Within 1024 (places_of base stride m)
unfolding places_of members
places-within base stride m h = within-from 32 base stride 0 m (omega arith)

-- ---- the parts of a step, and the step

pub taken-total : (d : List ℕ) (a x : ℕ) → length d ≡ 1024 → a < 32 → possible d a x ≡ true → total (taken d a x) + size x ≡ total d
unfolding taken possible inputs
taken-total d a x l h e =
    omega (arith, total_lowered d (inputs a x) l (places-within (a * 32) 1 x (omega arith)) (due_covers (a * 32) 1 (lit< tt) d x e), places-size (a * 32) 1 x)

pub added-total : (d : List ℕ) (a y : ℕ) → length d ≡ 1024 → a < 32 → total (added d a y) ≡ total d + size y
unfolding added outputs
added-total d a y l h = omega (arith, total-raised d (outputs a y) l (places-within a 32 y (omega arith)), places-size a 32 y)

pub after-total : (d : List ℕ) (a x y : ℕ) → length d ≡ 1024 → a < 32 → possible d a x ≡ true → total (after d a x y) + size x ≡ total d + size y
unfolding after
after-total d a x y l h e = omega (arith, taken-total d a x l h e, added-total (taken d a x) a y (length_taken d a x ∙ l) h)

-- ---- nothing is pending exactly if every count is zero

pub total-zero : (d : List ℕ) → total d ≡ 0 → all_zero d ≡ true
unfolding total all_zero
total-zero [] e = refl
total-zero (n ∷ ns) e = and_both (eq-eqb n 0 (omega arith)) (total-zero ns (omega arith))

pub zero-total : (d : List ℕ) → all_zero d ≡ true → total d ≡ 0
unfolding total all_zero
zero-total [] e = refl
zero-total (n ∷ ns) e = omega (arith, eqb-true n 0 (and_left (eqb n 0) (all_zero ns) e), zero-total ns (and_right (eqb n 0) (all_zero ns) e))
