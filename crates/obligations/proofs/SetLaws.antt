-- Laws of sets of activities: membership after each operation, the subset test, extensionality, and sets that differ by a
-- member. Each is read off the bits of the masks or off membership. Assumes nothing.
use Rattle.std.proofs.Common.{ℕ, zero, suc, ◌-◌, ◌/◌, ◌^◌, ◌≤◌, ◌<◌, min, max, ◌≡◌, refl, sym, ap, ◌∙◌, ◌⊎◌, inl, inr, ⊎_elim, Bool, true, false, cond, not, ◌&&◌, ◌||◌, eq-or-lt_of_le, arith, eq-eqb, ne_eqb, eqb-true, lt-ltb, le-ltb, eqb, ltb}
use native.Mathlib.Decide.{dec_lt}
use borrow.Author.Tests.{eqb-false, not-true}
use lib.Bits.{and_lt, or_lt, and_le_l, and_le_r, or_add_and}
use lib.Pow.{pow-lt, ones_sub-lt}
use Rattle.obligations.specs.Tests.{indicator}
use Rattle.obligations.specs.Sets.{bit, member, single, union, minus, subset}
use Rattle.obligations.proofs.BoolLaws.{true_or_false, false-not-true, and_left, and_right, same_test}
use Rattle.obligations.proofs.BitLaws.{bit_lt, bit_none, bit-suc, bit_above, bit_pow, bit_and_lem, bit_or_lem, bit_not, bit_ext, same_cases}

pub lt_or_le : (i m : ℕ) → (i < m) ⊎ (m ≤ i)
lt_or_le i m = go (dec_lt i m)
  where
    go : Dec (i < m) → (i < m) ⊎ (m ≤ i)
    go (yes h) = inl h
    go (no h) = inr (omega arith)

-- ---- a member is a bit that is set

pub member-bit : (m k : ℕ) → member m k ≡ true → bit m k ≡ 1
unfolding member
member-bit m k e = eqb-true (bit m k) 1 e

pub bit-member : (m k : ℕ) → bit m k ≡ 1 → member m k ≡ true
unfolding member
bit-member m k e = eq-eqb (bit m k) 1 e

pub no_member-bit : (m k : ℕ) → member m k ≡ false → bit m k ≡ 0
no_member-bit m k e =
    ⊎_elim (λ h. h) (λ h. absurd (false-not-true e (bit-member m k h))) (zero_or_one (bit m k) (bit_lt m k))
  where
    zero_or_one : (b : ℕ) → b < 2 → (b ≡ 0) ⊎ (b ≡ 1)
    zero_or_one zero h = inl refl
    zero_or_one (suc zero) h = inr refl
    zero_or_one (suc (suc b)) h = absurd (omega arith)

pub bit-indicator : (m k : ℕ) → bit m k ≡ indicator (member m k)
bit-indicator m k = go (true_or_false (member m k))
  where
    go : (member m k ≡ true) ⊎ (member m k ≡ false) → bit m k ≡ indicator (member m k)
    go (inl t) = member-bit m k t ∙ sym (ap indicator t)
    go (inr f) = no_member-bit m k f ∙ sym (ap indicator f)

pub member-suc : (m k : ℕ) → member m (suc k) ≡ member (m / 2) k
unfolding member
member-suc m k = ap (λ (b : ℕ). eqb b 1) (bit-suc m k)

-- ---- which masks there are

pub single_lt : (k : ℕ) → single k < 2 ^ 32
unfolding single
single_lt k = ⊎_elim (λ h. rw (lt-ltb k 32 h) (pow-lt h)) (λ h. rw (le-ltb k 32 h) (omega arith)) (lt_or_le k 32)

pub union_lt : (m n : ℕ) → m < 2 ^ 32 → n < 2 ^ 32 → union m n < 2 ^ 32
unfolding union
union_lt m n hm hn = or_lt 32 m n hm hn

pub minus_lt : (m n : ℕ) → m < 2 ^ 32 → minus m n < 2 ^ 32
unfolding minus
minus_lt m n hm = and_lt 32 m ((2 ^ 32 - 1) - n) hm (ones_sub-lt 32 n)

-- ---- membership

-- no set has a number above 31
pub member-activity : (m k : ℕ) → m < 2 ^ 32 → member m k ≡ true → k < 32
member-activity m k h e = ⊎_elim (λ l. l) (λ l. absurd (let z : ◌≡◌ {A = ℕ} 0 1 = sym (bit_above 32 m k h l) ∙ member-bit m k e in omega arith)) (lt_or_le k 32)

pub member_none : (k : ℕ) → member 0 k ≡ false
unfolding member
member_none k = rw (bit_none k)

pub member-single : (k j : ℕ) → member (single k) j ≡ ltb k 32 && eqb k j
unfolding member single
member-single k j = ⊎_elim activity (λ h. rw (le-ltb k 32 h) (rw (bit_none j))) (lt_or_le k 32)
  where
    activity : k < 32 → eqb (bit (cond (ltb k 32) (2 ^ k) 0) j) 1 ≡ ltb k 32 && eqb k j
    activity h = rw (lt-ltb k 32 h, bit_pow k j) (⊎_elim (λ w. rw w.1 (sym (eq-eqb k j w.0))) (λ w. rw w.1 (sym (ne_eqb k j w.0))) (same_cases k j))

pub member_union : (m n k : ℕ) → member (union m n) k ≡ member m k || member n k
unfolding member union
member_union m n k = rw (bit_or_lem m n k) (go (bit m k) (bit n k) (bit_lt m k) (bit_lt n k))
  where
    go : (a b : ℕ) → a < 2 → b < 2 → eqb (max a b) 1 ≡ eqb a 1 || eqb b 1
    go zero zero ha hb = refl
    go zero (suc zero) ha hb = refl
    go (suc zero) zero ha hb = refl
    go (suc zero) (suc zero) ha hb = refl
    go (suc (suc a)) zero ha hb = absurd (omega arith)
    go (suc (suc a)) (suc b) ha hb = absurd (omega arith)
    go zero (suc (suc b)) ha hb = absurd (omega arith)
    go (suc zero) (suc (suc b)) ha hb = absurd (omega arith)

pub member-minus : (m n k : ℕ) → m < 2 ^ 32 → n < 2 ^ 32 → member (minus m n) k ≡ member m k && not (member n k)
unfolding member minus
member-minus m n k hm hn = rw (bit_and_lem m ((2 ^ 32 - 1) - n) k) (⊎_elim low high (lt_or_le k 32))
  where
    go : (a b : ℕ) → a < 2 → b < 2 → eqb (min a (1 - b)) 1 ≡ eqb a 1 && not (eqb b 1)
    go zero zero ha hb = refl
    go zero (suc zero) ha hb = refl
    go (suc zero) zero ha hb = refl
    go (suc zero) (suc zero) ha hb = refl
    go (suc (suc a)) zero ha hb = absurd (omega arith)
    go (suc (suc a)) (suc b) ha hb = absurd (omega arith)
    go zero (suc (suc b)) ha hb = absurd (omega arith)
    go (suc zero) (suc (suc b)) ha hb = absurd (omega arith)

    low : k < 32 → eqb (min (bit m k) (bit ((2 ^ 32 - 1) - n) k)) 1 ≡ eqb (bit m k) 1 && not (eqb (bit n k) 1)
    low h = rw (bit_not 32 n k hn h) (go (bit m k) (bit n k) (bit_lt m k) (bit_lt n k))

    high : 32 ≤ k → eqb (min (bit m k) (bit ((2 ^ 32 - 1) - n) k)) 1 ≡ eqb (bit m k) 1 && not (eqb (bit n k) 1)
    high h = rw (bit_above 32 m k hm h) (ne_eqb (min 0 (bit ((2 ^ 32 - 1) - n) k)) 1 (λ e. omega arith))

-- the set with one activity more, and without one
pub member-with : (m k j : ℕ) → k < 32 → member (union m (single k)) j ≡ member m j || eqb k j
member-with m k j h =
    let e : member (single k) j ≡ eqb k j = member-single k j ∙ rw (lt-ltb k 32 h) in
    member_union m (single k) j ∙ ap (λ (t : Bool). member m j || t) e

pub member-without : (m k j : ℕ) → m < 2 ^ 32 → k < 32 → member (minus m (single k)) j ≡ member m j && not (eqb k j)
member-without m k j hm h =
    let e : member (single k) j ≡ eqb k j = member-single k j ∙ rw (lt-ltb k 32 h) in
    member-minus m (single k) j hm (single_lt k) ∙ ap (λ (t : Bool). member m j && not t) e

-- ---- equality and subsets

-- sets with the same members are the same mask
pub set_ext : (m n : ℕ) → m < 2 ^ 32 → n < 2 ^ 32 → ((k : ℕ) → k < 32 → member m k ≡ member n k) → m ≡ n
set_ext m n hm hn e = bit_ext 32 m n hm hn (λ k h. go k (true_or_false (member m k)) (e k h))
  where
    go : (k : ℕ) → (member m k ≡ true) ⊎ (member m k ≡ false) → member m k ≡ member n k → bit m k ≡ bit n k
    go k (inl t) q = member-bit m k t ∙ sym (bit_member_of k (sym q ∙ t))
      where
        bit_member_of : (k : ℕ) → member n k ≡ true → bit n k ≡ 1
        bit_member_of k t = member-bit n k t
    go k (inr f) q = no_member-bit m k f ∙ sym (no_member-bit n k (sym q ∙ f))

pub no_members : (m : ℕ) → m < 2 ^ 32 → ((k : ℕ) → k < 32 → member m k ≡ false) → m ≡ 0
no_members m h f = set_ext m 0 h (omega arith) (λ k l. f k l ∙ sym (member_none k))

-- a set that isn't empty has a member: in `MemberLaws`, the lowest one

pub subset-members : (m n : ℕ) → m < 2 ^ 32 → n < 2 ^ 32 → subset m n ≡ true → (k : ℕ) → member m k ≡ true → member n k ≡ true
unfolding subset
subset-members m n hm hn e k t = ⊎_elim (λ h. h) (λ f. absurd (false-not-true (none k) (kept f))) (true_or_false (member n k))
  where
    none : (j : ℕ) → member (minus m n) j ≡ false
    none j = ap (λ (s : ℕ). member s j) (eqb-true (minus m n) 0 e) ∙ member_none j

    kept : member n k ≡ false → member (minus m n) k ≡ true
    kept f = member-minus m n k hm hn ∙ rw (t, f)

pub members-subset : (m n : ℕ) → m < 2 ^ 32 → n < 2 ^ 32 → ((k : ℕ) → member m k ≡ true → member n k ≡ true) → subset m n ≡ true
unfolding subset
members-subset m n hm hn h = eq-eqb (minus m n) 0 (no_members (minus m n) (minus_lt m n hm) (λ k l. member-minus m n k hm hn ∙ out k (true_or_false (member m k))))
  where
    out : (k : ℕ) → (member m k ≡ true) ⊎ (member m k ≡ false) → member m k && not (member n k) ≡ false
    out k (inl t) = rw (t, h k t)
    out k (inr f) = rw f

-- ---- a set of one

pub single-has : (k : ℕ) → k < 32 → member (single k) k ≡ true
single-has k h = member-single k k ∙ rw (lt-ltb k 32 h, eq-eqb k k refl)

pub single_only : (k j : ℕ) → member (single k) j ≡ true → k ≡ j
single_only k j e = eqb-true k j (and_right (ltb k 32) (eqb k j) (sym (member-single k j) ∙ e))

-- ---- a set without a member, and with one more

minus_le : (m n : ℕ) → minus m n ≤ m
unfolding minus
minus_le m n = and_le_l m ((2 ^ 32 - 1) - n)

union_ge : (m n : ℕ) → m ≤ union m n
unfolding union
union_ge m n = omega (arith, or_add_and m n, and_le_r m n)

pub without_lt : (m k : ℕ) → m < 2 ^ 32 → k < 32 → member m k ≡ true → minus m (single k) < m
without_lt m k h a e = ⊎_elim (λ q. absurd (false-not-true gone (ap (λ (s : ℕ). member s k) q ∙ e))) (λ l. l) (eq-or-lt_of_le (minus_le m (single k)))
  where
    gone : member (minus m (single k)) k ≡ false
    gone = member-without m k k h a ∙ rw (e, eq-eqb k k refl)

pub with_gt : (m k : ℕ) → k < 32 → member m k ≡ false → m < union m (single k)
with_gt m k a e = ⊎_elim (λ q. absurd (false-not-true e (ap (λ (s : ℕ). member s k) q ∙ there))) (λ l. l) (eq-or-lt_of_le (union_ge m (single k)))
  where
    there : member (union m (single k)) k ≡ true
    there = member-with m k k a ∙ rw (e, eq-eqb k k refl)

-- ---- two sets of which one has the other's members

-- a set that has the members of another and is another has one that the other lacks
pub minus_some : (m n : ℕ) → m < 2 ^ 32 → n < 2 ^ 32 → ((k : ℕ) → member m k ≡ true → member n k ≡ true) → (m ≡ n → ⊥) → 0 < minus n m
unfolding subset
minus_some m n hm hn more ne = ⊎_elim (λ e. absurd (ne (same e))) (λ f. let z = eqb-false (minus n m) 0 f in omega arith) (true_or_false (subset n m))
  where
    same : subset n m ≡ true → m ≡ n
    same e = set_ext m n hm hn (λ k l. same_test (member m k) (member n k) (more k) (subset-members n m hn hm e k))

pub minus-member : (m n k : ℕ) → m < 2 ^ 32 → n < 2 ^ 32 → member (minus m n) k ≡ true → (member m k ≡ true) × (member n k ≡ false)
minus-member m n k hm hn e =
    let t : member m k && not (member n k) ≡ true = sym (member-minus m n k hm hn) ∙ e in
    (and_left (member m k) (not (member n k)) t, not-true (member n k) (and_right (member m k) (not (member n k)) t))
