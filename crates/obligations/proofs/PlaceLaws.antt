-- Laws of places in a state: how often a set selects a place, what one less or one more at each selected place makes of
-- the counts, and one turn of the walk over a set's members. No place is selected twice. Assumes nothing.
use Rattle.std.proofs.Common.{ℕ, zero, suc, ◌+◌, ◌-◌, ◌*◌, ◌/◌, ◌%◌, ◌≤◌, ◌<◌, ◌≡◌, refl, sym, ap, subst, ◌∙◌, ◌⊎◌, inl, inr, ⊎_elim, true, List, [], ◌∷◌, map, mod-lt, mul-le-mul_right, eq-zero-or-pos, arith, le-leb, leb-true, leb, lit<, length, get_or, set, length-set}
use mathlib.Core.List.Memᴰ
use lib.ListN.{length-map, get_or-eq_default}
use Rattle.obligations.specs.Sets.{bit, single, keep, members_from, members, size}
use Rattle.obligations.specs.Places.{places_of}
use Rattle.obligations.specs.State.{all_due, lowered, raised, State, most_due}
use Rattle.obligations.proofs.BoolLaws.{and_left, and_right, and_both}
use Rattle.obligations.proofs.BitLaws.{bit_lt, bit-zero, bit-suc, same, same_refl, same_cases, same_ne}
use Rattle.obligations.proofs.SetLaws.{lt_or_le}
use Rattle.obligations.proofs.MemberLaws.{members_none, members-single, members_are}

-- how often a place stands among places
unfoldable pub occ : ℕ → List ℕ → ℕ
unfolding same
occ j [] = 0
occ j (i ∷ is) = same i j + occ j is

-- the counts can be lowered at each of the places, and raised within a byte
unfoldable pub Covers : List ℕ → List ℕ → Type 0
unfolding occ
Covers d is = (j : ℕ) → occ j is ≤ get_or d j 0

unfoldable pub Room : List ℕ → List ℕ → Type 0
unfolding occ
Room d is = (j : ℕ) → get_or d j 0 + occ j is ≤ 255

-- ---- one count changed

lower-at : (d : List ℕ) (i j : ℕ) → get_or (set d i (get_or d i 0 - 1)) j 0 ≡ get_or d j 0 - same i j
unfolding same
lower-at [] i j = omega arith
lower-at (x ∷ xs) zero zero = refl
lower-at (x ∷ xs) zero (suc j) = omega arith
lower-at (x ∷ xs) (suc i) zero = omega arith
lower-at (x ∷ xs) (suc i) (suc j) = lower-at xs i j

raise-at : (d : List ℕ) (i j : ℕ) → j < length d → get_or (set d i (get_or d i 0 + 1)) j 0 ≡ get_or d j 0 + same i j
unfolding same
raise-at [] i j h = absurd (omega arith)
raise-at (x ∷ xs) zero zero h = refl
raise-at (x ∷ xs) zero (suc j) h = omega arith
raise-at (x ∷ xs) (suc i) zero h = omega arith
raise-at (x ∷ xs) (suc i) (suc j) h = raise-at xs i j (omega arith)

raise_le : (d : List ℕ) (i j : ℕ) → get_or (set d i (get_or d i 0 + 1)) j 0 ≤ get_or d j 0 + same i j
raise_le d i j = ⊎_elim (λ h. omega (arith, raise-at d i j h)) (λ h. omega (arith, get_or-eq_default (set d i (get_or d i 0 + 1)) 0 {n = j} (rw length-set h))) (lt_or_le j (length d))

-- ---- every count after one less, or one more, at each place

pub lowered-at : (d is : List ℕ) (j : ℕ) → get_or (lowered d is) j 0 ≡ get_or d j 0 - occ j is
unfolding lowered occ
lowered-at d [] j = omega arith
lowered-at d (i ∷ is) j = omega (arith, lowered-at (set d i (get_or d i 0 - 1)) is j, lower-at d i j)

pub raised_at_lem : (d is : List ℕ) (j : ℕ) → j < length d → get_or (raised d is) j 0 ≡ get_or d j 0 + occ j is
unfolding raised occ
raised_at_lem d [] j h = omega arith
raised_at_lem d (i ∷ is) j h = omega (arith, raised_at_lem (set d i (get_or d i 0 + 1)) is j (rw length-set h), raise-at d i j h)

pub length-lowered : (d is : List ℕ) → length (lowered d is) ≡ length d
unfolding lowered
length-lowered d [] = refl
length-lowered d (i ∷ is) = length-lowered (set d i (get_or d i 0 - 1)) is ∙ length-set d i _

pub length-raised : (d is : List ℕ) → length (raised d is) ≡ length d
unfolding raised
length-raised d [] = refl
length-raised d (i ∷ is) = length-raised (set d i (get_or d i 0 + 1)) is ∙ length-set d i _

-- ---- the walks' invariants

pub covers_head : (d : List ℕ) (i : ℕ) (is : List ℕ) → Covers d (i ∷ is) → 1 ≤ get_or d i 0
unfolding Covers occ
covers_head d i is h = omega (arith, h i, same_refl i)

pub covers-next : (d : List ℕ) (i : ℕ) (is : List ℕ) → Covers d (i ∷ is) → Covers (set d i (get_or d i 0 - 1)) is
unfolding Covers occ
covers-next d i is h j = omega (arith, h j, lower-at d i j)

pub room_head : (d : List ℕ) (i : ℕ) (is : List ℕ) → Room d (i ∷ is) → get_or d i 0 < 255
unfolding Room occ
room_head d i is h = omega (arith, h i, same_refl i)

pub room_next : (d : List ℕ) (i : ℕ) (is : List ℕ) → Room d (i ∷ is) → Room (set d i (get_or d i 0 + 1)) is
unfolding Room occ
room_next d i is h j = omega (arith, h j, raise_le d i j)

-- all are due exactly if each place that is selected has a count of at least 1
pub due_at : (d is : List ℕ) → all_due d is ≡ true → (j : ℕ) → 0 < occ j is → 1 ≤ get_or d j 0
unfolding all_due occ
due_at d [] e j h = absurd (omega arith)
due_at d (i ∷ is) e j h =
    ⊎_elim (λ w. subst (λ (k : ℕ). 1 ≤ get_or d k 0) w.0 (leb-true 1 (get_or d i 0) (and_left (leb 1 (get_or d i 0)) (all_due d is) e)))
    (λ w. due_at d is (and_right (leb 1 (get_or d i 0)) (all_due d is) e) j (let z = w.1 in omega arith)) (same_cases i j)

pub due_all : (d is : List ℕ) → ((j : ℕ) → 0 < occ j is → 1 ≤ get_or d j 0) → all_due d is ≡ true
unfolding all_due occ
due_all d [] h = refl
due_all d (i ∷ is) h = and_both (le-leb 1 (get_or d i 0) (h i (omega (arith, same_refl i)))) (due_all d is (λ j k. h j (omega arith)))

-- ---- which places a set selects

abbrev pub placed : ℕ → ℕ → ℕ → ℕ
placed base stride k = base + k * stride

module _ (base stride : ℕ) where
  found_keep : (b k : ℕ) (ks : List ℕ) (j : ℕ) → 0 < occ j (map (placed base stride) (keep b k ks)) → ((b ≡ 0 → ⊥) × (j ≡ placed base stride k)) ⊎ (0 < occ j (map (placed base stride) ks))
  unfolding keep occ
  found_keep zero k ks j h = inr h
  found_keep (suc b) k ks j h = ⊎_elim (λ w. inl ((λ e. omega arith), sym w.0)) (λ w. inr (let z = w.1 in omega arith)) (same_cases (placed base stride k) j)

  -- a place that is selected is that of a member
  found : (n k m j : ℕ) → 0 < occ j (map (placed base stride) (members_from n k m)) → (p : ℕ) × (p < n) × (j ≡ base + (k + p) * stride) × (bit m p ≡ 1)
  unfolding members_from occ
  found zero k m j h = absurd (omega arith)
  found (suc n) k m j h =
      ⊎_elim (λ w. (0, omega arith, w.1 ∙ ap (λ (i : ℕ). base + i * stride) (omega arith), bit-zero m ∙ one w.0))
      (λ w. let f = found n (suc k) (m / 2) j w in
      (suc f.0, suc_lt f.1, f.2 ∙ ap (λ (i : ℕ). base + i * stride) (omega arith), bit-suc m f.0 ∙ f.3))
      (found_keep (m % 2) k (members_from n (suc k) (m / 2)) j h)
    where
      one : (m % 2 ≡ 0 → ⊥) → m % 2 ≡ 1
      one ne = omega (arith, mod-lt m {m = 2} (lit< tt))

      suc_lt : {p : ℕ} → p < n → suc p < suc n
      suc_lt l = omega arith

  pub places_found : (m j : ℕ) → 0 < occ j (places_of base stride m) → (p : ℕ) × (p < 32) × (j ≡ base + p * stride) × (bit m p ≡ 1)
  unfolding places_of members
  places_found m j h = let f = found 32 0 m j h in (f.0, f.1, f.2 ∙ ap (λ (i : ℕ). base + i * stride) (omega arith), f.3)

  pub places_off : (m j : ℕ) → ((p : ℕ) → p < 32 → j ≡ base + p * stride → ⊥) → occ j (places_of base stride m) ≡ 0
  places_off m j ne = ⊎_elim (λ z. z) (λ h. let f = places_found m j h in absurd (ne f.0 f.1 f.2)) (eq-zero-or-pos (occ j (places_of base stride m)))

  module _ (apart : 0 < stride) where
    after_keep : (b k : ℕ) (ks : List ℕ) (j : ℕ) → j < placed base stride k → occ j (map (placed base stride) ks) ≡ 0 → occ j (map (placed base stride) (keep b k ks)) ≡ 0
    unfolding keep occ
    after_keep zero k ks j h e = e
    after_keep (suc b) k ks j h e = omega (arith, same_ne (placed base stride k) j (λ q. omega arith))

    -- places before the first digit's are not selected
    unselected : (n k m j : ℕ) → j < placed base stride k → occ j (map (placed base stride) (members_from n k m)) ≡ 0
    unfolding members_from occ
    unselected zero k m j h = refl
    unselected (suc n) k m j h = after_keep (m % 2) k (members_from n (suc k) (m / 2)) j h (unselected n (suc k) (m / 2) j (omega arith))

    at_keep : (b k : ℕ) (ks : List ℕ) → b < 2 → occ (placed base stride k) (map (placed base stride) ks) ≡ 0 → occ (placed base stride k) (map (placed base stride) (keep b k ks)) ≡ b
    unfolding keep occ
    at_keep zero k ks h e = e
    at_keep (suc zero) k ks h e = omega (arith, same_refl (placed base stride k))
    at_keep (suc (suc b)) k ks h e = absurd (omega arith)

    past_keep : (b k : ℕ) (ks : List ℕ) (j : ℕ) → placed base stride k < j → occ j (map (placed base stride) (keep b k ks)) ≡ occ j (map (placed base stride) ks)
    unfolding keep occ
    past_keep zero k ks j h = refl
    past_keep (suc b) k ks j h = omega (arith, same_ne (placed base stride k) j (λ e. omega arith))

    -- the place of p is selected as often as its bit says
    place_at : (n k m p : ℕ) → p < n → occ (base + (k + p) * stride) (map (placed base stride) (members_from n k m)) ≡ bit m p
    unfolding members_from
    place_at zero k m p h = absurd (omega arith)
    place_at (suc n) k m zero h =
        ap (λ (j : ℕ). occ (base + j * stride) (map (placed base stride) (keep (m % 2) k (members_from n (suc k) (m / 2))))) (omega arith)
        ∙ at_keep (m % 2) k (members_from n (suc k) (m / 2)) (omega arith) (unselected n (suc k) (m / 2) (placed base stride k) (omega arith))
        ∙ sym (bit-zero m)
    place_at (suc n) k m (suc p) h =
        past_keep (m % 2) k (members_from n (suc k) (m / 2)) (base + (k + suc p) * stride) (past p)
        ∙ ap (λ (j : ℕ). occ (base + j * stride) (map (placed base stride) (members_from n (suc k) (m / 2)))) (omega arith)
        ∙ place_at n (suc k) (m / 2) p (omega arith) ∙ sym (bit-suc m p)
      where
        past : (p : ℕ) → placed base stride k < base + (k + suc p) * stride
        past p = let h : suc k * stride ≤ (k + suc p) * stride = mul-le-mul_right stride (omega arith) in omega arith

    pub places_at : (m p : ℕ) → p < 32 → occ (base + p * stride) (places_of base stride m) ≡ bit m p
    unfolding places_of members
    places_at m p h = ap (λ (j : ℕ). occ (base + j * stride) (map (placed base stride) (members_from 32 0 m))) (omega arith) ∙ place_at 32 0 m p h

    -- no place is selected twice
    pub places_once : (m j : ℕ) → occ j (places_of base stride m) ≤ 1
    places_once m j = ⊎_elim (λ z. omega arith) twice (eq-zero-or-pos (occ j (places_of base stride m)))
      where
        twice : 0 < occ j (places_of base stride m) → occ j (places_of base stride m) ≤ 1
        twice h =
            let f = places_found m j h in
            let e : occ j (places_of base stride m) ≡ bit m f.0 = ap (λ (i : ℕ). occ i (places_of base stride m)) f.2 ∙ places_at m f.0 f.1 in
            omega (arith, bit_lt m f.0)

    -- what the walks need: counts that are due can be lowered, and counts of a state raised
    pub due_covers : (d : List ℕ) (m : ℕ) → all_due d (places_of base stride m) ≡ true → Covers d (places_of base stride m)
    unfolding Covers
    due_covers d m e j = ⊎_elim (λ z. omega arith) (λ p. omega (arith, places_once m j, due_at d (places_of base stride m) e j p)) (eq-zero-or-pos (occ j (places_of base stride m)))

    pub state_room : (d : List ℕ) (m : ℕ) → State most_due d → Room d (places_of base stride m)
    unfolding Room
    state_room d m s j = omega (arith, s.small j, places_once m j)

pub places_none : (base stride : ℕ) → places_of base stride 0 ≡ []
unfolding places_of
places_none base stride = ap (map (λ (k : ℕ). base + k * stride)) members_none

pub places-single : (base stride a : ℕ) → a < 32 → places_of base stride (single a) ≡ (base + a * stride) ∷ []
unfolding places_of
places-single base stride a h = ap (map (λ (k : ℕ). base + k * stride)) (members-single a h)

pub places-size : (base stride m : ℕ) → length (places_of base stride m) ≡ size m
unfolding places_of size
places-size base stride m = length-map (members m) (λ k. base + k * stride)

-- ---- one turn of a walk over the places of a set's members

-- the member that comes is an activity, its place is the first, and the places left are those of the members left
pub member_first : (m k n : ℕ) → members m ≡ k ∷ members n → k < 32
member_first m k n e = ((members_are m k).0 (rw e (Memᴰ.head refl))).0

pub places_next : (base stride m k n : ℕ) → members m ≡ k ∷ members n → places_of base stride m ≡ (base + k * stride) ∷ places_of base stride n
unfolding places_of
places_next base stride m k n e = ap (map (λ (i : ℕ). base + i * stride)) e

pub places_end : (base stride m : ℕ) → members m ≡ [] → places_of base stride m ≡ []
unfolding places_of
places_end base stride m e = ap (map (λ (i : ℕ). base + i * stride)) e

pub place_fits : (base stride k : ℕ) → base + 31 * stride < 1024 → k < 32 → base + k * stride < 1024
place_fits base stride k h l = let s : k * stride ≤ 31 * stride = mul-le-mul_right stride (omega arith) in omega arith

-- the place that comes is one of the state
pub first_inside : (base stride m i : ℕ) (is : List ℕ) → base + 31 * stride < 1024 → places_of base stride m ≡ i ∷ is → i < 1024
unfolding occ
first_inside base stride m i is h e =
    let f = places_found base stride m i (rw e (omega (arith, same_refl i))) in
    rw f.2 (place_fits base stride f.0 h f.1)
