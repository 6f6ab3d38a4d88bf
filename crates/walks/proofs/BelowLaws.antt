-- Laws of tests of all numbers below a bound, each by induction on the bound: whether one passes, which do, and that the set
-- of those has as many members as there are. Assumes nothing.
use Prim.Native.Nat.{ℕ, zero, suc, ◌+◌, ◌^◌, ◌≤◌, ◌<◌}
use mathlib.Core.Path.{◌≡◌, refl, sym, ap, ap₂, ◌∙◌}
use mathlib.Core.Logic.{⊎_elim}
use mathlib.Core.Bool.{Bool, true, false, not, ◌&&◌, ◌||◌, and-true, and-false, or-false}
use native.Mathlib.Nat.{le_refl, eq-or-lt_of_le}
use native.Mathlib.Decide.{ℕ_discrete as dec_eq}
use native.Mathlib.Omega.{arith}
use borrow.Author.Tests.{eq-eqb, ne_eqb, lt-ltb, le-ltb}
use lib.Dec.{eqb, ltb}
use Rattle.obligations.specs.Tests.{number}
use Rattle.obligations.specs.Sets.{member, single, minus, size}
use Rattle.obligations.proofs.BoolLaws.{true_or_false, false-not-true, and_both, or_left, or_right, or_cases}
use Rattle.obligations.proofs.SetLaws.{lt_or_le, member_none, member-with, member-minus, member-activity, union_lt, minus_lt, single_lt, set_ext, minus_some, minus-member}
use Rattle.obligations.proofs.TestLaws.{below_cases, number_ext, number_lt}
use Rattle.obligations.proofs.MemberLaws.{size_number, some_member}
use Rattle.walks.specs.Below.{any_below, sum_below, with_if, those_below, those}

-- ---- whether one passes

module _ (test : ℕ → Bool) where
  pub any_true : (n : ℕ) → any_below n test ≡ true → (k : ℕ) × (k < n) × (test k ≡ true)
  unfolding any_below
  any_true zero e = absurd (false-not-true refl e)
  any_true (suc n) e = ⊎_elim (λ h. let w = any_true n h in (w.0, less w.1, w.2)) (λ h. (n, omega arith, h)) (or_cases (any_below n test) (test n) e)
    where
      less : {k : ℕ} → k < n → k < suc n
      less l = omega arith

  pub true_any : (n k : ℕ) → k < n → test k ≡ true → any_below n test ≡ true
  unfolding any_below
  true_any zero k h e = absurd (omega arith)
  true_any (suc n) k h e = ⊎_elim (λ q. or_right (any_below n test) (rw (← q) e)) (λ l. or_left (test n) (true_any n k l e)) (below_cases k n h)

pub any_ext : (n : ℕ) (f g : ℕ → Bool) → ((k : ℕ) → k < n → f k ≡ g k) → any_below n f ≡ any_below n g
unfolding any_below
any_ext zero f g e = refl
any_ext (suc n) f g e = ap₂ (λ (s t : Bool). s || t) (any_ext n f g (λ k l. e k (omega arith))) (e n (omega arith))

-- ---- whether a set has a member that another lacks

module _ (m n : ℕ) (hm : m < 2 ^ 32) (hn : n < 2 ^ 32) where
  some_lacked : (minus m n ≡ 0 → ⊥) → any_below 32 (λ k. member m k && not (member n k)) ≡ true
  some_lacked d =
      let w = some_member (minus m n) (omega arith) (minus_lt m n hm) in
      let e = minus-member m n w.0 hm hn w.1 in
      true_any (λ k. member m k && not (member n k)) 32 w.0 (member-activity m w.0 hm e.0) (and_both e.0 (rw e.1))

  none_lacked : minus m n ≡ 0 → any_below 32 (λ k. member m k && not (member n k)) ≡ false
  none_lacked z =
      ⊎_elim
      (λ e.
      let w = any_true (λ k. member m k && not (member n k)) 32 e in
      absurd (false-not-true (ap (λ (s : ℕ). member s w.0) z ∙ member_none w.0) (member-minus m n w.0 hm hn ∙ w.2)))
      (λ e. e) (true_or_false (any_below 32 (λ k. member m k && not (member n k))))

  -- the test of an empty difference says whether
  pub lacked : not (eqb (minus m n) 0) ≡ any_below 32 (λ k. member m k && not (member n k))
  lacked = elim (dec_eq (minus m n) 0) [
    | yes z ↦ rw (eq-eqb (minus m n) 0 z, none_lacked z)
    | no d ↦ rw (ne_eqb (minus m n) 0 d, some_lacked d)
  ]

-- ---- which pass

pub member-with_if : (t : Bool) (k m j : ℕ) → k < 32 → member (with_if t k m) j ≡ member m j || (t && eqb k j)
unfolding with_if
member-with_if true k m j h = member-with m k j h
member-with_if false k m j h = sym (or-false (member m j))

pub with_if_lt : (t : Bool) (k m : ℕ) → m < 2 ^ 32 → with_if t k m < 2 ^ 32
unfolding with_if
with_if_lt true k m h = union_lt m (single k) h (single_lt k)
with_if_lt false k m h = h

member_below : (test : ℕ → Bool) (n j : ℕ) → n ≤ 32 → member (those_below n test) j ≡ ltb j n && test j
unfolding those_below
member_below test zero j h = member_none j ∙ sym (ap (λ (t : Bool). t && test j) (le-ltb j 0 (omega arith)))
member_below test (suc n) j h =
    member-with_if (test n) n (those_below n test) j h ∙ ap (λ (t : Bool). t || (test n && eqb n j)) (member_below test n j (omega arith))
    ∙ ⊎_elim before (λ l. ⊎_elim here past (eq-or-lt_of_le l)) (lt_or_le j n)
  where
    before : j < n → (ltb j n && test j) || (test n && eqb n j) ≡ ltb j (suc n) && test j
    before l = rw (lt-ltb j n l, lt-ltb j (suc n) (omega arith), ne_eqb n j (omega arith), and-false (test n)) (or-false (test j))

    here : n ≡ j → (ltb j n && test j) || (test n && eqb n j) ≡ ltb j (suc n) && test j
    here e = rw (← e, le-ltb n n (le_refl n), lt-ltb n (suc n) (omega arith), eq-eqb n n refl) (and-true (test n))

    past : n < j → (ltb j n && test j) || (test n && eqb n j) ≡ ltb j (suc n) && test j
    past l = rw (le-ltb j n (omega arith), le-ltb j (suc n) l, ne_eqb n j (omega arith)) (and-false (test n))

pub member-those : (test : ℕ → Bool) (j : ℕ) → member (those test) j ≡ ltb j 32 && test j
unfolding those
member-those test j = member_below test 32 j (le_refl 32)

pub member_those_at : (test : ℕ → Bool) (j : ℕ) → j < 32 → member (those test) j ≡ test j
member_those_at test j h = member-those test j ∙ rw (lt-ltb j 32 h)

below_lt : (test : ℕ → Bool) (n : ℕ) → those_below n test < 2 ^ 32
unfolding those_below
below_lt test zero = omega arith
below_lt test (suc n) = with_if_lt (test n) n (those_below n test) (below_lt test n)

pub those_lt : (test : ℕ → Bool) → those test < 2 ^ 32
unfolding those
those_lt test = below_lt test 32

-- a set is that of its members below 32
pub those_are : (test : ℕ → Bool) (m : ℕ) → m < 2 ^ 32 → ((k : ℕ) → k < 32 → member m k ≡ test k) → m ≡ those test
those_are test m h e = set_ext m (those test) h (those_lt test) (λ k l. e k l ∙ sym (member_those_at test k l))

-- ---- sums

pub sum_ext : (n : ℕ) (f g : ℕ → ℕ) → ((k : ℕ) → k < n → f k ≡ g k) → sum_below n f ≡ sum_below n g
unfolding sum_below
sum_ext zero f g e = refl
sum_ext (suc n) f g e = ap₂ (λ (c d : ℕ). c + d) (sum_ext n f g (λ k l. e k (omega arith))) (e n (omega arith))

-- the first number apart from the others
pub sum_first : (n : ℕ) (f : ℕ → ℕ) → sum_below (suc n) f ≡ f 0 + sum_below n (λ i. f (suc i))
unfolding sum_below
sum_first zero f = omega arith
sum_first (suc n) f = omega (arith, sum_first n f)

-- ---- a set's size

pub size-those : (test : ℕ → Bool) → size (those test) ≡ number 32 test
size-those test = size_number (those test) ∙ number_ext 32 (member (those test)) test (member_those_at test)

-- a set that has the members of another and is another has more members
pub size_lt : (m n : ℕ) → m < 2 ^ 32 → n < 2 ^ 32 → ((k : ℕ) → member m k ≡ true → member n k ≡ true) → (m ≡ n → ⊥) → size m < size n
size_lt m n hm hn more ne =
    let w = some_member (minus n m) (minus_some m n hm hn more ne) (minus_lt n m hn) in
    let e = minus-member n m w.0 hn hm w.1 in
    rw (size_number m, size_number n) (number_lt (member m) (member n) more 32 w.0 (member-activity n w.0 hn e.0) e.1 e.0)
