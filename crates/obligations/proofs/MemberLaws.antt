-- Laws of the list of a set's members: its lowest member is found by trailing zeros and taken off by a subtraction, its
-- length is the count of ones, and it lists exactly the members. Each goes digit by digit. Assumes nothing.
use Rattle.std.proofs.Common.{ℕ, zero, suc, ◌+◌, ◌-◌, ◌*◌, ◌/◌, ◌%◌, ◌^◌, ◌≤◌, ◌<◌, min, ◌≡◌, refl, sym, ap, ap₂, ◌∙◌, ◌↔◌, ◌⊎◌, inl, inr, ⊎_elim, true, List, [], ◌∷◌, mod-lt, add-zero, zero-add, pow-suc, arith, lt-ltb, bit_and, lit<, length}
use mathlib.Core.List.Memᴰ
use mathlib.Core.List.{Memᴰ}
use lib.Bits.{and_step, and_self}
use lib.Count.{ones, ones_in, ones_step, count_trailing_zeros, under}
use Rattle.obligations.specs.Tests.{number}
use Rattle.obligations.specs.Sets.{bit, member, single, keep, members_from, members, size}
use Rattle.obligations.proofs.TestLaws.{number_ext, number-first}
use Rattle.obligations.proofs.BitLaws.{half_lt, parity, bit-zero, bit-suc}
use Rattle.obligations.proofs.SetLaws.{member-bit, bit-member, bit-indicator, member-suc}

-- ---- the walk

walk : (n k m : ℕ) → 0 < m → m < 2 ^ n → members_from n k m ≡ (k + count_trailing_zeros n m) ∷ members_from n k (m - 2 ^ count_trailing_zeros n m)
unfolding members_from count_trailing_zeros keep
walk zero k m p h = absurd (omega arith)
walk (suc n) k m p h = ⊎_elim (λ e. even e (walk n (suc k) (m / 2) (omega arith) (half_lt m n h))) odd (parity m)
  where
    Goal : ℕ → Type 0
    Goal r =
        keep r k (members_from n (suc k) (m / 2))
        ≡ (k + under r (count_trailing_zeros n (m / 2)))
        ∷ keep ((m - 2 ^ under r (count_trailing_zeros n (m / 2))) % 2) k (members_from n (suc k) ((m - 2 ^ under r (count_trailing_zeros n (m / 2))) / 2))

    even : m % 2 ≡ 0
        → members_from n (suc k) (m / 2) ≡ (suc k + count_trailing_zeros n (m / 2)) ∷ members_from n (suc k) (m / 2 - 2 ^ count_trailing_zeros n (m / 2))
        → Goal (m % 2)
    even e ih =
        let t : ℕ = count_trailing_zeros n (m / 2) in
        let q : 2 ^ suc t ≡ 2 ^ t * 2 = pow-suc 2 t in
        let l₁ : (m - 2 ^ suc t) % 2 ≡ 0 = omega arith in
        let l₂ : (m - 2 ^ suc t) / 2 ≡ m / 2 - 2 ^ t = omega arith in
        let l₃ : k + suc t ≡ suc k + t = omega arith in
        rw (e, l₁, l₂, l₃) ih

    odd : m % 2 ≡ 1 → Goal (m % 2)
    odd e =
        let l₁ : (m - 1) % 2 ≡ 0 = omega arith in
        let l₂ : (m - 1) / 2 ≡ m / 2 = omega arith in
        rw (e, l₁, l₂, add-zero) refl

-- the lowest member is the place of a digit, and its power of two is part of the mask
pub lowest-digit : (n m : ℕ) → 0 < m → m < 2 ^ n → (count_trailing_zeros n m < n) × (2 ^ count_trailing_zeros n m ≤ m)
unfolding count_trailing_zeros
lowest-digit zero m p h = absurd (omega arith)
lowest-digit (suc n) m p h = ⊎_elim (λ e. even e (lowest-digit n (m / 2) (omega arith) (half_lt m n h))) odd (parity m)
  where
    Goal : ℕ → Type 0
    Goal r = (under r (count_trailing_zeros n (m / 2)) < suc n) × (2 ^ under r (count_trailing_zeros n (m / 2)) ≤ m)

    even : m % 2 ≡ 0 → (count_trailing_zeros n (m / 2) < n) × (2 ^ count_trailing_zeros n (m / 2) ≤ m / 2) → Goal (m % 2)
    even e ih = rw e (let q = pow-suc 2 (count_trailing_zeros n (m / 2)) in omega arith)

    odd : m % 2 ≡ 1 → Goal (m % 2)
    odd e = rw e (omega arith)

-- a mask and the number below it have all members in common but the lowest
pub drop-lowest : (n m : ℕ) → 0 < m → m < 2 ^ n → bit_and m (m - 1) ≡ m - 2 ^ count_trailing_zeros n m
unfolding count_trailing_zeros
drop-lowest zero m p h = absurd (omega arith)
drop-lowest (suc n) m p h = and_step m (m - 1) ∙ ⊎_elim (λ e. even e (drop-lowest n (m / 2) (omega arith) (half_lt m n h))) odd (parity m)
  where
    Goal : ℕ → Type 0
    Goal r = bit_and (m / 2) ((m - 1) / 2) * 2 + min r ((m - 1) % 2) ≡ m - 2 ^ under r (count_trailing_zeros n (m / 2))

    even : m % 2 ≡ 0 → bit_and (m / 2) (m / 2 - 1) ≡ m / 2 - 2 ^ count_trailing_zeros n (m / 2) → Goal (m % 2)
    even e ih =
        let h₁ : (m - 1) / 2 ≡ m / 2 - 1 = omega arith in
        let q = pow-suc 2 (count_trailing_zeros n (m / 2)) in
        rw (e, h₁, ih) (omega arith)

    odd : m % 2 ≡ 1 → Goal (m % 2)
    odd e =
        let h₁ : (m - 1) / 2 ≡ m / 2 = omega arith in
        rw (e, h₁, and_self (m / 2)) (omega arith)

-- the members of a set: the lowest, and those of the set without it
pub members_walk : (m : ℕ) → 0 < m → m < 2 ^ 32 → members m ≡ count_trailing_zeros 32 m ∷ members (bit_and m (m - 1))
unfolding members
members_walk m p h = walk 32 0 m p h ∙ rw (zero-add, drop-lowest 32 m p h)

pub members_none : members 0 ≡ []
unfolding members
members_none = refl

-- ---- the size

length-keep : (b k : ℕ) (ks : List ℕ) → b < 2 → length (keep b k ks) ≡ b + length ks
unfolding keep
length-keep zero k ks h = omega arith
length-keep (suc zero) k ks h = omega arith
length-keep (suc (suc b)) k ks h = absurd (omega arith)

ones_none : ones 0 ≡ 0
unfolding ones ones_in
ones_none = refl

length-ones : (n k m : ℕ) → m < 2 ^ n → length (members_from n k m) ≡ ones m
unfolding members_from keep
length-ones zero k m h = let e : m ≡ 0 = omega arith in rw e (sym ones_none)
length-ones (suc n) k m h = length-keep (m % 2) k _ (mod-lt m (lit< tt)) ∙ ap (λ (x : ℕ). m % 2 + x) (length-ones n (suc k) (m / 2) (half_lt m n h)) ∙ sym (ones_step m)

pub size-ones : (m : ℕ) → m < 2 ^ 32 → size m ≡ ones m
unfolding size members
size-ones m h = length-ones 32 0 m h

length_le : (n k m : ℕ) → length (members_from n k m) ≤ n
unfolding members_from
length_le zero k m = omega arith
length_le (suc n) k m = omega (arith, length-keep (m % 2) k (members_from n (suc k) (m / 2)) (mod-lt m (lit< tt)), length_le n (suc k) (m / 2), mod-lt m {m = 2} (lit< tt))

pub size_le : (m : ℕ) → size m ≤ 32
unfolding size members
size_le m = length_le 32 0 m

-- and the number of activities that are members
length-number : (n k m : ℕ) → length (members_from n k m) ≡ number n (member m)
unfolding members_from number
length-number zero k m = refl
length-number (suc n) k m =
    length-keep (m % 2) k (members_from n (suc k) (m / 2)) (mod-lt m (lit< tt))
    ∙ ap₂ ◌+◌ (sym (bit-zero m) ∙ bit-indicator m 0) (length-number n (suc k) (m / 2) ∙ number_ext n (member (m / 2)) (λ j. member m (suc j)) (λ j l. sym (member-suc m j)))
    ∙ sym (number-first n (member m))

pub size_number : (m : ℕ) → size m ≡ number 32 (member m)
unfolding size members
size_number m = length-number 32 0 m

pub size_none : size 0 ≡ 0
unfolding size
size_none = ap length members_none

-- ---- the list has exactly the members

in_keep : (b k : ℕ) (ks : List ℕ) (j : ℕ) → Memᴰ j (keep b k ks) → ((b ≡ 0 → ⊥) × (j ≡ k)) ⊎ Memᴰ j ks
unfolding keep
in_keep zero k ks j h = inr h
in_keep (suc b) k ks j h = ⊎_elim (λ e. inl ((λ z. omega arith), e)) (λ t. inr t) (Memᴰ.cases_cons h)

keep_in : (b k : ℕ) (ks : List ℕ) (j : ℕ) → Memᴰ j ks → Memᴰ j (keep b k ks)
unfolding keep
keep_in zero k ks j h = h
keep_in (suc b) k ks j h = Memᴰ.tail h

kept : (b k : ℕ) (ks : List ℕ) → b ≡ 1 → Memᴰ k (keep b k ks)
unfolding keep
kept b k ks e = rw e (Memᴰ.head refl)

listed : (n k m j : ℕ) → Memᴰ j (members_from n k m) → (p : ℕ) × (p < n) × (j ≡ k + p) × (bit m p ≡ 1)
unfolding members_from
listed zero k m j h = absurd (Memᴰ.not-nil h)
listed (suc n) k m j h =
    ⊎_elim (λ w. (0, omega arith, omega arith, bit-zero m ∙ one w.0))
    (λ t. let f = listed n (suc k) (m / 2) j t in (suc f.0, less f.1, next f.0 f.2, bit-suc m f.0 ∙ f.3))
    (in_keep (m % 2) k (members_from n (suc k) (m / 2)) j h)
  where
    one : (m % 2 ≡ 0 → ⊥) → m % 2 ≡ 1
    one ne = omega (arith, mod-lt m {m = 2} (lit< tt))

    less : {p : ℕ} → p < n → suc p < suc n
    less l = omega arith

    next : (p : ℕ) → j ≡ suc k + p → j ≡ k + suc p
    next p e = omega arith

lists : (n k m p : ℕ) → p < n → bit m p ≡ 1 → Memᴰ (k + p) (members_from n k m)
unfolding members_from
lists zero k m p h e = absurd (omega arith)
lists (suc n) k m zero h e = rw (add-zero k) (kept (m % 2) k (members_from n (suc k) (m / 2)) (sym (bit-zero m) ∙ e))
lists (suc n) k m (suc p) h e =
    let q : k + suc p ≡ suc k + p = omega arith in
    rw q (keep_in (m % 2) k (members_from n (suc k) (m / 2)) (suc k + p) (lists n (suc k) (m / 2) p (omega arith) (sym (bit-suc m p) ∙ e)))

pub members_are : (m k : ℕ) → Memᴰ k (members m) ↔ ((k < 32) × (member m k ≡ true))
unfolding members
members_are m k = (
  (λ t. let f = listed 32 0 m k t in let e : k ≡ f.0 = omega (arith, f.2) in (rw e f.1, bit-member m k (rw e f.3))),
  (λ w. rw (← zero-add k) (lists 32 0 m k w.0 (member-bit m k w.1))),
)

-- a set that isn't empty has a member
pub some_member : (m : ℕ) → 0 < m → m < 2 ^ 32 → (k : ℕ) × (member m k ≡ true)
some_member m p h = (count_trailing_zeros 32 m, ((members_are m (count_trailing_zeros 32 m)).0 (rw (members_walk m p h) (Memᴰ.head refl))).1)

-- ---- what holds of a list that is made digit by digit

-- n digits are left, and the lowest of them stands for k
module _ (P : ℕ → ℕ → List ℕ → Type 0) (none : (k : ℕ) → P 0 k []) (clear : (n k : ℕ) (ks : List ℕ) → P n (suc k) ks → P (suc n) k ks)
    (digit_set : (n k : ℕ) (ks : List ℕ) → P n (suc k) ks → P (suc n) k (k ∷ ks)) where
  from_induct : (n k m : ℕ) → P n k (members_from n k m)
  unfolding members_from keep
  from_induct zero k m = none k
  from_induct (suc n) k m = go (m % 2) (from_induct n (suc k) (m / 2))
    where
      go : (b : ℕ) → P n (suc k) (members_from n (suc k) (m / 2)) → P (suc n) k (keep b k (members_from n (suc k) (m / 2)))
      go zero p = clear n k _ p
      go (suc b) p = digit_set n k _ p

  pub members_induct : (m : ℕ) → P 32 0 (members m)
  unfolding members
  members_induct m = from_induct 32 0 m

-- ---- no member, and one

from_none : (n k : ℕ) → members_from n k 0 ≡ []
unfolding members_from keep
from_none zero k = refl
from_none (suc n) k = from_none n (suc k)

from-single : (n k a : ℕ) → a < n → members_from n k (2 ^ a) ≡ (k + a) ∷ []
unfolding members_from keep
from-single zero k a h = absurd (omega arith)
from-single (suc n) k zero h = rw (add-zero k) (ap (λ (l : List ℕ). k ∷ l) (from_none n (suc k)))
from-single (suc n) k (suc a) h =
    let q = pow-suc 2 a in
    let e₁ : 2 ^ suc a % 2 ≡ 0 = omega arith in
    let e₂ : 2 ^ suc a / 2 ≡ 2 ^ a = omega arith in
    let e₃ : k + suc a ≡ suc k + a = omega arith in
    rw (e₁, e₂, e₃) (from-single n (suc k) a (omega arith))

pub members-single : (a : ℕ) → a < 32 → members (single a) ≡ a ∷ []
unfolding members single
members-single a h = rw (lt-ltb a 32 h) (from-single 32 0 a h ∙ ap (λ (k : ℕ). k ∷ []) (zero-add a))

pub single-filled : (a : ℕ) → a < 32 → single a ≡ 0 → ⊥
single-filled a h e = let z = ap length (sym (members-single a h) ∙ ap members e ∙ members_none) in omega arith
