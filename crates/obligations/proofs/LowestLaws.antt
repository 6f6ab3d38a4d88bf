-- Laws of a set's lowest member, which trailing zeros find: it is a member, none is below it, and the set without it is what the
-- mask and the number before it have in common. Each goes digit by digit. Assumes nothing.
use Rattle.std.proofs.Common.{ℕ, zero, suc, ◌+◌, ◌-◌, ◌*◌, ◌/◌, ◌%◌, ◌^◌, ◌<◌, min, ◌≡◌, refl, sym, ap, ◌∙◌, ⊎_elim, true, false, pow-suc, mod-eq_of_lt, arith, lt-ltb, bit_and, pow_pos}
use mathlib.Core.List.Memᴰ
use lib.Bits.{and_step, and_mask}
use lib.Count.{count_trailing_zeros, under}
use lib.Pow.{pow-lt}
use Rattle.obligations.specs.Sets.{bit, member, single, minus}
use Rattle.obligations.proofs.BitLaws.{half_lt, parity, bit-zero, bit-suc}
use Rattle.obligations.proofs.SetLaws.{member-bit}
use Rattle.obligations.proofs.MemberLaws.{lowest-digit, drop-lowest, members_walk, members_are}

module _ (m : ℕ) (some : 0 < m) (small : m < 2 ^ 32) where
  pub lowest_activity : count_trailing_zeros 32 m < 32
  lowest_activity = (lowest-digit 32 m some small).0

  pub lowest_member_lem : member m (count_trailing_zeros 32 m) ≡ true
  lowest_member_lem = ((members_are m (count_trailing_zeros 32 m)).0 (rw (members_walk m some small) (Memᴰ.head refl))).1

no_bit_below : (n m k : ℕ) → k < count_trailing_zeros n m → bit m k ≡ 0
unfolding count_trailing_zeros
no_bit_below zero m k h = absurd (omega arith)
no_bit_below (suc n) m zero h = ⊎_elim (λ e. bit-zero m ∙ e) (λ e. absurd (let l : 0 < under 1 (count_trailing_zeros n (m / 2)) = rw e at h in omega arith)) (parity m)
no_bit_below (suc n) m (suc k) h =
    ⊎_elim (λ e. let l : suc k < under 0 (count_trailing_zeros n (m / 2)) = rw e at h in bit-suc m k ∙ no_bit_below n (m / 2) k (omega arith))
    (λ e. absurd (let l : suc k < under 1 (count_trailing_zeros n (m / 2)) = rw e at h in omega arith)) (parity m)

pub none_below : (m k : ℕ) → k < count_trailing_zeros 32 m → member m k ≡ false
unfolding member
none_below m k h = rw (no_bit_below 32 m k h)

-- ---- the set without it

-- a mask without the digit k, which is set
and-without : (n m k : ℕ) → m < 2 ^ n → k < n → bit m k ≡ 1 → bit_and m ((2 ^ n - 1) - 2 ^ k) + 2 ^ k ≡ m
and-without zero m k h l e = absurd (omega arith)
and-without (suc n) m zero h l e =
    let w = pow-suc 2 n in
    let p = pow_pos n in
    let q : ((2 ^ suc n - 1) - 1) / 2 ≡ 2 ^ n - 1 = omega arith in
    let s = and_step m ((2 ^ suc n - 1) - 1) ∙ ap (λ (x : ℕ). bit_and (m / 2) x * 2 + min (m % 2) (((2 ^ suc n - 1) - 1) % 2)) q in
    omega (arith, s, and_mask (m / 2) n ∙ mod-eq_of_lt (half_lt m n h), bit-zero m)
and-without (suc n) m (suc k) h l e =
    let w = pow-suc 2 n in
    let v = pow-suc 2 k in
    let lt : 2 ^ k < 2 ^ n = pow-lt (omega arith) in
    let q : ((2 ^ suc n - 1) - 2 ^ suc k) / 2 ≡ (2 ^ n - 1) - 2 ^ k = omega arith in
    let s = and_step m ((2 ^ suc n - 1) - 2 ^ suc k) ∙ ap (λ (x : ℕ). bit_and (m / 2) x * 2 + min (m % 2) (((2 ^ suc n - 1) - 2 ^ suc k) % 2)) q in
    omega (arith, s, and-without n (m / 2) k (half_lt m n h) (omega arith) (sym (bit-suc m k) ∙ e))

pub without_lowest : (m : ℕ) → 0 < m → m < 2 ^ 32 → bit_and m (m - 1) ≡ minus m (single (count_trailing_zeros 32 m))
unfolding minus single
without_lowest m p h =
    let l = lowest_activity m p h in
    rw (lt-ltb (count_trailing_zeros 32 m) 32 l) (omega (arith, drop-lowest 32 m p h, (lowest-digit 32 m p h).1, and-without 32 m (count_trailing_zeros 32 m) h l (member-bit m (count_trailing_zeros 32 m) (lowest_member_lem m p h))))
