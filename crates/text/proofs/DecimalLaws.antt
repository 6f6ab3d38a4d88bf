-- Laws of decimal numbers: what a reader's answer says of its field; that what is printed is all digits, well led, and
-- read as the number that was printed; and that nothing else is read as that number, since digits after a number that
-- isn't 0 are printed after it. A number of 20 digits or more is printed in 20, and so as no number of fewer. Assumes nothing.
use Rattle.std.proofs.Common.{ℕ, zero, suc, ◌+◌, ◌*◌, ◌-◌, ◌≤◌, ◌<◌, ◌^◌, ◌%◌, ◌/◌, ◌≡◌, refl, sym, ap, ap₂, ◌∙◌, ◌↔◌, ⊎_elim, Bool, true, false, ◌&&◌, cond, List, [], ◌∷◌, ◌++◌, map, append-nil, append_assoc, pow-suc, zero-add, eq-or-lt_of_le, arith, le-leb, ne_eqb, leb-true, ltb-true, ltb-false, le-ltb, leb, ltb, eqb, length, Some, None}
use mathlib.Core.Bool.{false≢true}
use mathlib.Core.List.Memᴰ
use mathlib.Core.List.{Memᴰ}
use borrow.Author.Tests.{eqb-false, not-true}
use Rattle.obligations.proofs.BoolLaws.{and_left, and_right}
use Rattle.obligations.proofs.SetLaws.{lt_or_le}
use Rattle.text.specs.Bytes.{occurrences}
use Rattle.text.specs.Decimal.{is_digit, all_digits, value_from, value, well_led, is_number, parse_number, all_numbers, values, digit, decimal, print_number}
use Rattle.text.proofs.DigitLaws.{value_grows, decimal-low, number_full, number_below}

-- ---- what an answer says of its field

pub number-value : (limit : ℕ) (s : List ℕ) (k : ℕ) → parse_number limit s ≡ Some k → (is_number limit s ≡ true) × (value s ≡ k)
unfolding parse_number
number-value limit s k = go (is_number limit s)
  where
    go : (t : Bool) → cond t (Some (value s)) None ≡ Some k → (t ≡ true) × (value s ≡ k)
    go true q = (refl, cc)
    go false q = let z : ◌≡◌ {A = ℕ} 0 1 = cc in absurd (omega arith)

pub number-refused : (limit : ℕ) (s : List ℕ) → parse_number limit s ≡ None → is_number limit s ≡ false
unfolding parse_number
number-refused limit s = go (is_number limit s)
  where
    go : (t : Bool) → cond t (Some (value s)) None ≡ None → t ≡ false
    go true q = let z : ◌≡◌ {A = ℕ} 0 1 = cc in absurd (omega arith)
    go false q = refl

pub number_most : (limit : ℕ) (s : List ℕ) → is_number limit s ≡ true → value s ≤ limit
unfolding is_number
number_most limit s q = leb-true (value s) limit (and_right (all_digits s) (leb (value s) limit) (and_right (well_led s) (all_digits s && leb (value s) limit) q))

pub parse_most : (limit : ℕ) (s : List ℕ) (k : ℕ) → parse_number limit s ≡ Some k → k ≤ limit
parse_most limit s k q = let v = number-value limit s k q in omega (arith, number_most limit s v.0, v.1)

pub values_most : (limit : ℕ) (fs : List (List ℕ)) → all_numbers limit fs ≡ true → (k : ℕ) → Memᴰ k (values fs) → k ≤ limit
values_most limit [] q k m = absurd (Memᴰ.not-nil m)
values_most limit (f ∷ fs) q k m =
    ⊎_elim (λ e. omega (arith, number_most limit f (and_left (is_number limit f) (all_numbers limit fs) q))) (λ t. values_most limit fs (and_right (is_number limit f) (all_numbers limit fs) q) k t)
    (Memᴰ.cases_cons m)

-- ---- what was printed is read

digit_ok : (n : ℕ) → is_digit (digit n) ≡ true
digit_ok n = rw (le-leb 48 (48 + n % 10) (omega arith), le-leb (48 + n % 10) 57 (omega arith))

all_append : (s t : List ℕ) → all_digits s ≡ true → all_digits t ≡ true → all_digits (s ++ t) ≡ true
all_append [] t p q = q
all_append (b ∷ s) t p q = rw (and_left (is_digit b) (all_digits s) p) (all_append s t (and_right (is_digit b) (all_digits s) p) q)

decimal_digits : (f n : ℕ) → all_digits (decimal f n) ≡ true
decimal_digits zero n = rw (digit_ok n)
decimal_digits (suc f) n = go (ltb n 10) (decimal_digits f (n / 10))
  where
    one : all_digits (digit n ∷ []) ≡ true
    one = rw (digit_ok n)

    go : (t : Bool) → all_digits (decimal f (n / 10)) ≡ true → all_digits (cond t (digit n ∷ []) (decimal f (n / 10) ++ (digit n ∷ []))) ≡ true
    go true ih = one
    go false ih = all_append (decimal f (n / 10)) (digit n ∷ []) ih one

value_snoc : (v : ℕ) (s : List ℕ) (d : ℕ) → value_from v (s ++ (d ∷ [])) ≡ value_from v s * 10 + (d - 48)
value_snoc v [] d = refl
value_snoc v (b ∷ s) d = value_snoc (v * 10 + (b - 48)) s d

decimal-value : (f n : ℕ) → n < 10 ^ suc f → value (decimal f n) ≡ n
decimal-value zero n h = omega arith
decimal-value (suc f) n h = go (ltb n 10) refl (decimal-value f (n / 10) (omega (arith, pow-suc 10 (suc f))))
  where
    go : (t : Bool) → ltb n 10 ≡ t → value (decimal f (n / 10)) ≡ n / 10 → value (cond t (digit n ∷ []) (decimal f (n / 10) ++ (digit n ∷ []))) ≡ n
    go true q ih = omega (arith, ltb-true n 10 q)
    go false q ih = value_snoc 0 (decimal f (n / 10)) (digit n) ∙ rw ih (omega arith)

-- the first byte is no 0, unless it is the only one
append-led : (s : List ℕ) (d : ℕ) → well_led s ≡ true → (value s ≡ 0 → ⊥) → well_led (s ++ (d ∷ [])) ≡ true
append-led [] d h z = refl
append-led (b ∷ []) d h z = rw (ne_eqb b 48 (λ q. z (omega arith)))
append-led (b ∷ c ∷ s) d h z = h

decimal-led : (f n : ℕ) → n < 10 ^ suc f → well_led (decimal f n) ≡ true
decimal-led zero n h = refl
decimal-led (suc f) n h = let u : n / 10 < 10 ^ suc f = omega (arith, pow-suc 10 (suc f)) in go (ltb n 10) refl u (decimal-led f (n / 10) u)
  where
    go : (t : Bool) → ltb n 10 ≡ t → n / 10 < 10 ^ suc f → well_led (decimal f (n / 10)) ≡ true → well_led (cond t (digit n ∷ []) (decimal f (n / 10) ++ (digit n ∷ []))) ≡ true
    go true q u ih = refl
    go false q u ih = append-led (decimal f (n / 10)) (digit n) ih (λ z. omega (arith, decimal-value f (n / 10) u, ltb-false n 10 q))

-- a printed number is a number, and of its value
pub print_number_lem : (limit n : ℕ) → n ≤ limit → n < 10 ^ 20 → is_number limit (print_number n) ≡ true
unfolding is_number print_number
print_number_lem limit n h u = rw (decimal-led 19 n u, decimal_digits 19 n, decimal-value 19 n u, le-leb n limit h)

pub print-value : (n : ℕ) → n < 10 ^ 20 → value (print_number n) ≡ n
unfolding print_number
print-value n u = decimal-value 19 n u

-- reading a printed number gives the number
pub parse_print : (limit n : ℕ) → n ≤ limit → n < 10 ^ 20 → parse_number limit (print_number n) ≡ Some n
unfolding parse_number
parse_print limit n h u = rw (print_number_lem limit n h u, print-value n u)

digit_byte : (b : ℕ) → is_digit b ≡ true → (48 ≤ b) × (b ≤ 57)
digit_byte b q = (leb-true 48 b (and_left (leb 48 b) (leb b 57) q), leb-true b 57 (and_right (leb 48 b) (leb b 57) q))

-- digits hold no byte below 48, as CR, LF, space and comma are
digits_free : (c : ℕ) (s : List ℕ) → c < 48 → all_digits s ≡ true → occurrences c s ≡ 0
digits_free c [] h q = refl
digits_free c (b ∷ s) h q =
    let d = digit_byte b (and_left (is_digit b) (all_digits s) q) in
    rw (ne_eqb b c (λ e. omega arith)) (omega (arith, digits_free c s h (and_right (is_digit b) (all_digits s) q)))

pub number_free : (c n : ℕ) → c < 48 → occurrences c (print_number n) ≡ 0
unfolding print_number
number_free c n h = digits_free c (decimal 19 n) h (decimal_digits 19 n)

pub numbers_free : (c : ℕ) → c < 48 → (ks : List ℕ) (q : List ℕ) → Memᴰ q (map print_number ks) → occurrences c q ≡ 0
numbers_free c h [] q m = absurd (Memᴰ.not-nil m)
numbers_free c h (k ∷ ks) q m = ⊎_elim (λ e. rw e (number_free c k h)) (λ t. numbers_free c h ks q t) (Memᴰ.cases_cons m)

-- ---- what is read is the print of its value

-- room for a digit that isn't there changes nothing
decimal_spare : (f n : ℕ) → n < 10 ^ suc f → decimal (suc f) n ≡ decimal f n
decimal_spare zero n h = decimal-low 1 n h
decimal_spare (suc f) n h = ap (λ (s : List ℕ). cond (ltb n 10) (digit n ∷ []) (s ++ (digit n ∷ []))) (decimal_spare f (n / 10) (omega (arith, pow-suc 10 (suc f))))

-- a number that isn't 0, with a digit more, and with more digits
decimal_snoc : (f v b : ℕ) → 0 < v → is_digit b ≡ true → v * 10 + (b - 48) < 10 ^ suc f → decimal f (v * 10 + (b - 48)) ≡ decimal f v ++ (b ∷ [])
decimal_snoc zero v b h q u = absurd (omega arith)
decimal_snoc (suc f) v b h q u =
    let d = digit_byte b q in
    let t : (v * 10 + (b - 48)) / 10 ≡ v = omega arith in
    let e : digit (v * 10 + (b - 48)) ≡ b = omega arith in
    rw (le-ltb (v * 10 + (b - 48)) 10 (omega arith), t, e) (ap (λ (s : List ℕ). s ++ (b ∷ [])) (sym (decimal_spare f v (omega (arith, pow-suc 10 (suc f))))))

decimal-after : (f v : ℕ) (s : List ℕ) → 0 < v → all_digits s ≡ true → value_from v s < 10 ^ suc f → decimal f (value_from v s) ≡ decimal f v ++ s
decimal-after f v [] h q u = sym (append-nil (decimal f v))
decimal-after f v (b ∷ s) h q u =
    let w : ℕ = v * 10 + (b - 48) in
    decimal-after f w s (omega arith) (and_right (is_digit b) (all_digits s) q) u
    ∙ ap (λ (r : List ℕ). r ++ s) (decimal_snoc f v b h (and_left (is_digit b) (all_digits s) q) (omega (arith, value_grows w s)))
    ∙ append_assoc (decimal f v) (b ∷ []) s

-- a digit alone, and digits that are well led
decimal-first : (f b : ℕ) → is_digit b ≡ true → decimal f (b - 48) ≡ b ∷ []
decimal-first f b q =
    let d = digit_byte b q in
    let e : digit (b - 48) ≡ b = omega arith in
    decimal-low f (b - 48) (omega arith) ∙ ap (λ (k : ℕ). k ∷ []) e

digits_printed : (f : ℕ) (s : List ℕ) → well_led s ≡ true → all_digits s ≡ true → value s < 10 ^ suc f → s ≡ decimal f (value s)
digits_printed f [] l q u = absurd (false≢true l)
digits_printed f (b ∷ []) l q u = rw (zero-add (b - 48)) (sym (decimal-first f b (and_left (is_digit b) true q)))
digits_printed f (b ∷ c ∷ s) l q u =
    let t = and_left (is_digit b) (all_digits (c ∷ s)) q in
    let d = digit_byte b t in
    let z = eqb-false b 48 (not-true (eqb b 48) l) in
    let p : 0 < b - 48 = ⊎_elim (λ e. absurd (z (omega arith))) (λ g. omega arith) (eq-or-lt_of_le d.0) in
    rw (zero-add (b - 48)) (sym (decimal-after f (b - 48) (c ∷ s) p (and_right (is_digit b) (all_digits (c ∷ s)) q) (rw (zero-add (b - 48)) at u) ∙ ap (λ (r : List ℕ). r ++ (c ∷ s)) (decimal-first f b t)))

pub number_printed : (limit : ℕ) (s : List ℕ) → limit < 10 ^ 20 → is_number limit s ≡ true → s ≡ print_number (value s)
unfolding is_number print_number
number_printed limit s h q =
    let r = and_right (well_led s) (all_digits s && leb (value s) limit) q in
    digits_printed 19 s (and_left (well_led s) (all_digits s && leb (value s) limit) q) (and_left (all_digits s) (leb (value s) limit) r) (omega (arith, leb-true (value s) limit (and_right (all_digits s) (leb (value s) limit) r)))

-- a field is read as a number exactly if it is the number's print and the number is at most the limit
pub parse_exactly : (limit n : ℕ) (s : List ℕ) → limit < 10 ^ 20 → (parse_number limit s ≡ Some n) ↔ ((s ≡ print_number n) × (n ≤ limit))
parse_exactly limit n s h = (
  (λ q. let v = number-value limit s n q in (number_printed limit s h v.0 ∙ ap print_number v.1, parse_most limit s n q)),
  (λ w. ap (parse_number limit) w.0 ∙ parse_print limit n w.1 (omega arith)),
)

-- fields that are numbers are the prints of their values, and prints of numbers are fields of these values
pub fields_printed : (limit : ℕ) (fs : List (List ℕ)) → limit < 10 ^ 20 → all_numbers limit fs ≡ true → fs ≡ map print_number (values fs)
fields_printed limit [] h q = refl
fields_printed limit (f ∷ fs) h q =
    ap₂ (λ (p : List ℕ) (ps : List (List ℕ)). p ∷ ps) (number_printed limit f h (and_left (is_number limit f) (all_numbers limit fs) q)) (fields_printed limit fs h (and_right (is_number limit f) (all_numbers limit fs) q))

pub printed_fields : (limit : ℕ) (ks : List ℕ) → limit < 10 ^ 20 → ((k : ℕ) → Memᴰ k ks → k ≤ limit) → (all_numbers limit (map print_number ks) ≡ true) × (values (map print_number ks) ≡ ks)
printed_fields limit [] h m = (refl, refl)
printed_fields limit (k ∷ ks) h m =
    let l = m k (Memᴰ.head refl) in
    let r = printed_fields limit ks h (λ j t. m j (Memᴰ.tail t)) in
    (rw (print_number_lem limit k l (omega arith)) r.0, ap₂ (λ (j : ℕ) (js : List ℕ). j ∷ js) (print-value k (omega arith)) r.1)

-- ---- what is printed twice is one number

-- the print of a number with at most 19 digits is the print of no other number
pub print_once : (k n : ℕ) → n < 10 ^ 19 → print_number k ≡ print_number n → k ≡ n
print_once k n h e =
    ⊎_elim (λ l. sym (print-value k l) ∙ ap value e ∙ print-value n (omega arith)) (λ l. absurd (omega (arith, number_full k (omega arith), number_below 18 n h, ap length e)))
    (lt_or_le k (10 ^ 20))

pub prints_once : (ks ns : List ℕ) → ((n : ℕ) → Memᴰ n ns → n < 10 ^ 19) → map print_number ks ≡ map print_number ns → ks ≡ ns
prints_once [] [] m e = refl
prints_once [] (n ∷ ns) m e = let z : ◌≡◌ {A = ℕ} 0 1 = cc in absurd (omega arith)
prints_once (k ∷ ks) [] m e = let z : ◌≡◌ {A = ℕ} 0 1 = cc in absurd (omega arith)
prints_once (k ∷ ks) (n ∷ ns) m e =
    ap₂ (λ (j : ℕ) (js : List ℕ). j ∷ js) (print_once k n (m n (Memᴰ.head refl)) (cc)) (prints_once ks ns (λ j t. m j (Memᴰ.tail t)) (cc))
