-- Laws of a mask's bits under the machine's operations: each is proved digit by digit, at any width. Assumes nothing.
use Rattle.std.proofs.Common.{ℕ, zero, suc, ◌-◌, ◌*◌, ◌/◌, ◌%◌, ◌^◌, ◌≤◌, ◌<◌, min, max, ◌≡◌, refl, sym, ap, ◌∙◌, ◌⊎◌, inl, inr, mod-lt, one-mul, pow-suc, one-add, arith, bit_and, bit_or, lit<, shr-shr, shl_exact}
use lib.Arith.{digits_mod}
use lib.Bits.{and_step, or_step, and_shr, or_shr}
use Rattle.obligations.specs.Sets.{bit}

pub half_lt : (m n : ℕ) → m < 2 ^ suc n → m / 2 < 2 ^ n
half_lt m n h = let e = pow-suc 2 n in omega arith

pub parity : (m : ℕ) → (m % 2 ≡ 0) ⊎ (m % 2 ≡ 1)
parity m = go (m % 2) (mod-lt m (lit< tt))
  where
    go : (r : ℕ) → r < 2 → (r ≡ 0) ⊎ (r ≡ 1)
    go zero h = inl refl
    go (suc zero) h = inr refl
    go (suc (suc r)) h = absurd (omega arith)

-- ---- one bit

pub bit_lt : (m k : ℕ) → bit m k < 2
unfolding bit
bit_lt m k = mod-lt (m / 2 ^ k) (lit< tt)

pub bit-zero : (m : ℕ) → bit m 0 ≡ m % 2
unfolding bit
bit-zero m = omega arith

pub bit-suc : (m k : ℕ) → bit m (suc k) ≡ bit (m / 2) k
unfolding bit
bit-suc m k = ap (λ (n : ℕ). n % 2) (ap (λ (j : ℕ). m / 2 ^ j) (sym (one-add k)) ∙ sym (shr-shr m 1 k))

pub bit_none : (k : ℕ) → bit 0 k ≡ 0
bit_none zero = bit-zero 0
bit_none (suc k) = bit-suc 0 k ∙ bit_none k

-- a mask of n digits has no bit from n on
pub bit_above : (n m k : ℕ) → m < 2 ^ n → n ≤ k → bit m k ≡ 0
bit_above zero m k h l = let e : m ≡ 0 = omega arith in rw e (bit_none k)
bit_above (suc n) m zero h l = absurd (omega arith)
bit_above (suc n) m (suc k) h l = bit-suc m k ∙ bit_above n (m / 2) k (half_lt m n h) (omega arith)

-- 1 if two numbers are equal, else 0
unfoldable pub same : ℕ → ℕ → ℕ
same zero zero = 1
same zero (suc j) = 0
same (suc i) zero = 0
same (suc i) (suc j) = same i j

pub same_refl : (i : ℕ) → same i i ≡ 1
unfolding same
same_refl zero = refl
same_refl (suc i) = same_refl i

pub same_cases : (i j : ℕ) → ((i ≡ j) × (same i j ≡ 1)) ⊎ ((i ≡ j → ⊥) × (same i j ≡ 0))
unfolding same
same_cases zero zero = inl (refl, refl)
same_cases zero (suc j) = inr ((λ e. omega arith), refl)
same_cases (suc i) zero = inr ((λ e. omega arith), refl)
same_cases (suc i) (suc j) = go (same_cases i j)
  where
    go : ((i ≡ j) × (same i j ≡ 1)) ⊎ ((i ≡ j → ⊥) × (same i j ≡ 0)) → ((suc i ≡ suc j) × (same i j ≡ 1)) ⊎ ((suc i ≡ suc j → ⊥) × (same i j ≡ 0))
    go (inl h) = inl (ap suc h.0, h.1)
    go (inr h) = inr ((λ e. h.0 (omega arith)), h.1)

pub same_ne : (i j : ℕ) → (i ≡ j → ⊥) → same i j ≡ 0
same_ne i j ne = go (same_cases i j)
  where
    go : ((i ≡ j) × (same i j ≡ 1)) ⊎ ((i ≡ j → ⊥) × (same i j ≡ 0)) → same i j ≡ 0
    go (inl h) = absurd (ne h.0)
    go (inr h) = h.1

pub bit_pow : (k j : ℕ) → bit (2 ^ k) j ≡ same k j
unfolding same
bit_pow zero zero = bit-zero 1
bit_pow zero (suc j) = bit-suc 1 j ∙ bit_none j
bit_pow (suc k) zero = bit-zero (2 ^ suc k) ∙ (let q = pow-suc 2 k in omega arith)
bit_pow (suc k) (suc j) = bit-suc (2 ^ suc k) j ∙ ap (λ (x : ℕ). bit x j) (let q = pow-suc 2 k in omega arith) ∙ bit_pow k j

-- ---- the machine's operations

pub one_shl : (k : ℕ) → k < 32 → (1 * 2 ^ k) % 2 ^ 32 ≡ 2 ^ k
one_shl k h = shl_exact 1 k 32 (lit< tt) (omega arith) ∙ one-mul (2 ^ k)

pub bit_and_lem : (a b k : ℕ) → bit (bit_and a b) k ≡ min (bit a k) (bit b k)
unfolding bit
bit_and_lem a b k =
    ap (λ (n : ℕ). n % 2) (and_shr a b k ∙ and_step (a / 2 ^ k) (b / 2 ^ k))
    ∙ digits_mod (bit_and (a / 2 ^ k / 2) (b / 2 ^ k / 2)) (omega arith)

pub bit_or_lem : (a b k : ℕ) → bit (bit_or a b) k ≡ max (bit a k) (bit b k)
unfolding bit
bit_or_lem a b k =
    ap (λ (n : ℕ). n % 2) (or_shr a b k ∙ or_step (a / 2 ^ k) (b / 2 ^ k))
    ∙ digits_mod (bit_or (a / 2 ^ k / 2) (b / 2 ^ k / 2)) (omega arith)

pub bit_not : (n m k : ℕ) → m < 2 ^ n → k < n → bit ((2 ^ n - 1) - m) k ≡ 1 - bit m k
bit_not zero m k h l = absurd (omega arith)
bit_not (suc n) m zero h l = let q = pow-suc 2 n in omega (arith, bit-zero ((2 ^ suc n - 1) - m), bit-zero m)
bit_not (suc n) m (suc k) h l =
    bit-suc ((2 ^ suc n - 1) - m) k
    ∙ ap (λ (x : ℕ). bit x k) (let q = pow-suc 2 n in omega arith)
    ∙ bit_not n (m / 2) k (half_lt m n h) (omega arith)
    ∙ ap (λ (b : ℕ). 1 - b) (sym (bit-suc m k))

-- ---- masks with the same bits are equal

pub bit_ext : (n a b : ℕ) → a < 2 ^ n → b < 2 ^ n → ((k : ℕ) → k < n → bit a k ≡ bit b k) → a ≡ b
bit_ext zero a b ha hb e = omega arith
bit_ext (suc n) a b ha hb e =
    let low : a % 2 ≡ b % 2 = sym (bit-zero a) ∙ e 0 (omega arith) ∙ bit-zero b in
    let high : a / 2 ≡ b / 2 = bit_ext n (a / 2) (b / 2) (half_lt a n ha) (half_lt b n hb) (λ k h. sym (bit-suc a k) ∙ e (suc k) (omega arith) ∙ bit-suc b k) in
    omega arith
