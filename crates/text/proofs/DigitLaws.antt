-- Laws of digits, for the loops over them. Reading may stop at the first byte that decides, since a value only grows with
-- further digits; writing goes from the last digit to the first, as many as there are. Assumes nothing.
use Rattle.std.proofs.Common.{get_or, eq-eqb, ℕ, zero, suc, ◌+◌, ◌*◌, ◌-◌, ◌≤◌, ◌<◌, ◌^◌, ◌/◌, ◌%◌, ◌≡◌, refl, ap, ◌∙◌, Bool, true, false, ◌&&◌, cond, List, [], ◌∷◌, ◌++◌, pow-suc, arith, le-leb, leb-true, leb-false, lt-ltb, le-ltb, leb, ltb, length, length-append, Option, Some, None}
use mathlib.Core.Bool.{and-false}
use Rattle.std.proofs.Math.Nat.{one-le-pow}
use Rattle.std.proofs.Math.Seq.{slice}
use Rattle.text.proofs.ByteLaws.{slice-step}
use borrow.Author.Tests.{lt-leb}
use Rattle.text.specs.Decimal.{is_digit, all_digits, value_from, well_led, is_number, parse_number, digit, last_digits, decimal, print_number}

-- ---- reading digit by digit

-- digits that follow digits of value v, up to the first byte that decides
abbrev pub digits : ℕ → ℕ → List ℕ → Option ℕ
digits limit v [] = Some v
digits limit v (b ∷ s) = cond (is_digit b) (cond (leb (v * 10 + (b - 48)) limit) (digits limit (v * 10 + (b - 48)) s) None) None

pub value_grows : (v : ℕ) (s : List ℕ) → v ≤ value_from v s
value_grows v [] = omega arith
value_grows v (b ∷ s) = omega (arith, value_grows (v * 10 + (b - 48)) s)

digits_early : (limit v : ℕ) (s : List ℕ) → v ≤ limit → digits limit v s ≡ cond (all_digits s && leb (value_from v s) limit) (Some (value_from v s)) None
digits_early limit v [] h = rw (le-leb v limit h)
digits_early limit v (b ∷ s) h = go (is_digit b) refl (leb (v * 10 + (b - 48)) limit) refl (λ k. digits_early limit (v * 10 + (b - 48)) s k)
  where
    go : (d : Bool) → is_digit b ≡ d → (l : Bool) → leb (v * 10 + (b - 48)) limit ≡ l
        → (v * 10 + (b - 48) ≤ limit → digits limit (v * 10 + (b - 48)) s
        ≡ cond (all_digits s && leb (value_from (v * 10 + (b - 48)) s) limit) (Some (value_from (v * 10 + (b - 48)) s)) None)
        → digits limit v (b ∷ s) ≡ cond (all_digits (b ∷ s) && leb (value_from v (b ∷ s)) limit) (Some (value_from v (b ∷ s))) None
    go false p l q ih = rw p
    go true p true q ih = rw (p, q) (ih (leb-true (v * 10 + (b - 48)) limit q))
    go true p false q ih = rw (p, q, lt-leb (value_from (v * 10 + (b - 48)) s) limit (omega (arith, leb-false (v * 10 + (b - 48)) limit q, value_grows (v * 10 + (b - 48)) s)), and-false (all_digits s))

pub number-start : (limit : ℕ) (s : List ℕ) → well_led s ≡ true → parse_number limit s ≡ digits limit 0 s
unfolding parse_number is_number
number-start limit s h = rw (h, digits_early limit 0 s (omega arith))

pub number_ill_led : (limit : ℕ) (s : List ℕ) → well_led s ≡ false → parse_number limit s ≡ None
unfolding parse_number is_number
number_ill_led limit s h = rw h

-- a part of a text that begins with 0 and another byte is no number
pub led-zero : (s : List ℕ) (i e : ℕ) → i + 1 < e → e ≤ length s → get_or s i 0 ≡ 48 → well_led (slice i e s) ≡ false
led-zero s i e h t q = rw (slice-step s i e (omega arith) t, slice-step s (i + 1) e h t, eq-eqb (get_or s i 0) 48 q)

-- ---- writing digit by digit

pub length_last : (k n : ℕ) → length (last_digits k n) ≡ k
length_last zero n = refl
length_last (suc k) n = length-append (last_digits k (n / 10)) (digit n ∷ []) ∙ omega (arith, length_last k (n / 10))

-- a printed number is the last digits of the number, as many as it has
decimal_last : (f n : ℕ) → decimal f n ≡ last_digits (length (decimal f n)) n
decimal_last zero n = refl
decimal_last (suc f) n = go (ltb n 10) (decimal_last f (n / 10))
  where
    go : (t : Bool) → decimal f (n / 10) ≡ last_digits (length (decimal f (n / 10))) (n / 10)
        → cond t (digit n ∷ []) (decimal f (n / 10) ++ (digit n ∷ [])) ≡ last_digits (length (cond t (digit n ∷ []) (decimal f (n / 10) ++ (digit n ∷ [])))) n
    go true ih = refl
    go false ih =
        let l : length (decimal f (n / 10) ++ (digit n ∷ [])) ≡ suc (length (decimal f (n / 10))) = length-append (decimal f (n / 10)) (digit n ∷ []) ∙ omega arith in
        rw l (ap (λ (s : List ℕ). s ++ (digit n ∷ [])) ih)

pub number_last : (n : ℕ) → print_number n ≡ last_digits (length (print_number n)) n
unfolding print_number
number_last n = decimal_last 19 n

-- ---- how many digits there are

-- a number below 10 is printed as one digit
pub decimal-low : (f n : ℕ) → n < 10 → decimal f n ≡ digit n ∷ []
decimal-low zero n h = refl
decimal-low (suc f) n h = rw (lt-ltb n 10 h)

-- one digit, or one more than the number without its last has
last_digit : (t : Bool) (f n k : ℕ) → length (decimal f (n / 10)) ≤ k → length (cond t (digit n ∷ []) (decimal f (n / 10) ++ (digit n ∷ []))) ≤ suc k
last_digit true f n k h = omega arith
last_digit false f n k h = omega (arith, length-append (decimal f (n / 10)) (digit n ∷ []))

decimal_below : (k f n : ℕ) → n < 10 ^ suc k → length (decimal f n) ≤ suc k
decimal_below k zero n h = omega arith
decimal_below zero (suc f) n h = let l : n < 10 = h in rw (lt-ltb n 10 l) (omega arith)
decimal_below (suc k) (suc f) n h =
    let u : n / 10 < 10 ^ suc k = omega (arith, pow-suc 10 (suc k)) in
    last_digit (ltb n 10) f n (suc k) (decimal_below k f (n / 10) u)

decimal-within : (f n : ℕ) → length (decimal f n) ≤ suc f
decimal-within zero n = omega arith
decimal-within (suc f) n = last_digit (ltb n 10) f n (suc f) (decimal-within f (n / 10))

-- a number below 10 ^ (k + 1) has at most k + 1 digits, and no number more than 20
pub number_below : (k n : ℕ) → n < 10 ^ suc k → length (print_number n) ≤ suc k
unfolding print_number
number_below k n h = decimal_below k 19 n h

pub number-within : (n : ℕ) → length (print_number n) ≤ 20
unfolding print_number
number-within n = decimal-within 19 n

pub number_below_100 : (n : ℕ) → n < 100 → length (print_number n) ≤ 2
number_below_100 n h = number_below 1 n h

-- a number of 20 digits or more is printed in 20
decimal_full : (f n : ℕ) → 10 ^ f ≤ n → length (decimal f n) ≡ suc f
decimal_full zero n h = refl
decimal_full (suc f) n h =
    let p : 10 ^ f * 10 ≤ n = rw (pow-suc 10 f) at h in
    let o : 1 ≤ 10 ^ f = one-le-pow f 10 (omega arith) in
    rw (le-ltb n 10 (omega arith)) (length-append (decimal f (n / 10)) (digit n ∷ []) ∙ omega (arith, decimal_full f (n / 10) (omega arith)))

pub number_full : (n : ℕ) → 10 ^ 19 ≤ n → length (print_number n) ≡ 20
unfolding print_number
number_full n h = decimal_full 19 n h

-- and every number in at least one
decimal_some : (f n : ℕ) → 1 ≤ length (decimal f n)
decimal_some zero n = omega arith
decimal_some (suc f) n = go (ltb n 10)
  where
    go : (t : Bool) → 1 ≤ length (cond t (digit n ∷ []) (decimal f (n / 10) ++ (digit n ∷ [])))
    go true = omega arith
    go false = omega (arith, length-append (decimal f (n / 10)) (digit n ∷ []))

pub number_some : (n : ℕ) → print_number n ≡ [] → ⊥
unfolding print_number
number_some n e = omega (arith, decimal_some 19 n, ap length e)

-- a number of at least 10 ^ k, up to the 20 digits that are printed, has more than k digits
decimal_above : (k f n : ℕ) → k ≤ f → 10 ^ k ≤ n → k < length (decimal f n)
decimal_above zero f n l h = omega (arith, decimal_some f n)
decimal_above (suc k) zero n l h = absurd (omega arith)
decimal_above (suc k) (suc f) n l h =
    let p : 10 ^ k * 10 ≤ n = rw (pow-suc 10 k) at h in
    let o : 1 ≤ 10 ^ k = one-le-pow k 10 (omega arith) in
    rw (le-ltb n 10 (omega arith)) (omega (arith, length-append (decimal f (n / 10)) (digit n ∷ []), decimal_above k f (n / 10) (omega arith) (omega arith)))

-- one digit
pub one_digit : (n : ℕ) → n < 10 → print_number n ≡ (48 + n) ∷ []
unfolding print_number
one_digit n h =
    let e : n % 10 ≡ n = omega arith in
    rw (lt-ltb n 10 h, e) refl

-- the digits of a number, by the power of ten that it is not below
pub number-width : (k n : ℕ) → k < 20 → 10 ^ k ≤ n → n < 10 * 10 ^ k → k + 1 ≡ length (print_number n)
unfolding print_number
number-width k n l h u =
    let p : n < 10 ^ suc k = rw (pow-suc 10 k) (omega arith) in
    omega (arith, decimal_above k 19 n (omega arith) h, decimal_below k 19 n p)
