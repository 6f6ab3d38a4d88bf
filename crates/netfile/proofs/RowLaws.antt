-- Laws of one line: what each test of its fields decides. A line has as many fields as commas and one more. Assumes nothing.
use Prim.Native.Nat.{ℕ, suc}
use borrow.Author.Tests.{ne_eqb}
use mathlib.Core.Logic.{⊎_elim}
use mathlib.Core.Path.{◌≡◌, refl, ap, ◌∙◌}
use mathlib.Core.Bool.{true, false, ◌&&◌, cond}
use mathlib.Core.List.{List, [], ◌∷◌}
use native.Mathlib.Omega.{arith}
use lib.ListN.{length, get_or}
use Rattle.std.specs.Prelude.{◌==◌}
use Rattle.text.specs.Bytes.{occurrences, same_bytes}
use Rattle.text.specs.Fields.{comma, split}
use Rattle.text.specs.Decimal.{is_empty, parse_number}
use Rattle.text.specs.Members.{highest, parse_members}
use Rattle.obligations.proofs.BoolLaws.{true_or_false}
use Rattle.text.proofs.ByteLaws.{same_equal}
use Rattle.text.proofs.FieldLaws.{length-split}
use Rattle.std.specs.Prelude.{Result, Ok, Err, Option, Some, None}
use Rattle.std.specs.Option.{ok_or}
use Rattle.net.specs.declared.refusal.Refusal.{Refusal}
use Rattle.net.specs.declared.refusal.Refusal.TheVariants.{LineForm, NumberForm}
use Rattle.net.specs.declared.sides.Side.{Side}
use Rattle.net.specs.declared.sides.Side.TheVariants.{Input, Output}
use Rattle.netfile.specs.declared.line.SetRow.{SetRow}
use Rattle.netfile.specs.NetFile.{side_word, row_of_set, end_number, end_fields, read_end, row_rest, read_side, row_on, row_fields, read_set_row}

-- whether a field is empty, as the code tests it
pub empty_length : (m : List ℕ) → (length m == 0) ≡ is_empty m
empty_length [] = refl
empty_length (b ∷ m) = ne_eqb (suc (length m)) 0 (λ e. omega arith)

-- ---- the number of fields

not_three : (fs : List (List ℕ)) (word : List ℕ) → (length fs ≡ 3 → ⊥) → (end_fields word fs ≡ Err LineForm) × (row_fields fs ≡ Err LineForm)
not_three [] word h = (refl, refl)
not_three (w ∷ []) word h = (refl, refl)
not_three (w ∷ a ∷ []) word h = (refl, refl)
not_three (w ∷ a ∷ m ∷ []) word h = absurd (h refl)
not_three (w ∷ a ∷ m ∷ x ∷ fs) word h = (refl, refl)

module _ (line : List ℕ) (h : length (split comma line) ≡ 3 → ⊥) where
  pub end_not_three : (word : List ℕ) → read_end word line ≡ Err LineForm
  unfolding read_end
  end_not_three word = (not_three (split comma line) word h).0

  pub row_not_three : read_set_row line ≡ Err LineForm
  unfolding read_set_row
  row_not_three = (not_three (split comma line) [] h).1

module _ (line : List ℕ) (h : occurrences comma line ≡ 2 → ⊥) where
  pub end_commas : (word : List ℕ) → read_end word line ≡ Err LineForm
  end_commas = end_not_three line (λ q. h (omega (arith, length-split comma line)))

  pub row_commas : read_set_row line ≡ Err LineForm
  row_commas = row_not_three line (λ q. h (omega (arith, length-split comma line)))

-- ---- the start row and the end row with three fields

module _ (word line w a m : List ℕ) (f : split comma line ≡ w ∷ a ∷ m ∷ []) where
  end_three : read_end word line ≡ cond (same_bytes w word && is_empty m) (end_number (parse_number highest a)) (Err LineForm)
  unfolding read_end
  end_three = rw f

  pub end_other_word : same_bytes w word ≡ false → read_end word line ≡ Err LineForm
  end_other_word d = rw (end_three, d)

  pub end_members : same_bytes w word ≡ true → is_empty m ≡ false → read_end word line ≡ Err LineForm
  end_members t d = rw (end_three, t, d)

  pub end_plain : same_bytes w word ≡ true → is_empty m ≡ true → read_end word line ≡ end_number (parse_number highest a)
  end_plain t u = rw (end_three, t, u)

-- ---- a row with three fields

module _ (line w a m : List ℕ) (f : split comma line ≡ w ∷ a ∷ m ∷ []) where
  pub row_three : read_set_row line ≡ row_on (read_side w) a m
  unfolding read_set_row
  row_three = rw f

  pub row_in : same_bytes w (side_word Input) ≡ true → read_set_row line ≡ row_rest Input a m
  unfolding read_side
  row_in t = row_three ∙ rw t

  pub row_out : same_bytes w (side_word Input) ≡ false → same_bytes w (side_word Output) ≡ true → read_set_row line ≡ row_rest Output a m
  unfolding read_side
  row_out d t = row_three ∙ rw (d, t)

  pub row_other_word : same_bytes w (side_word Input) ≡ false → same_bytes w (side_word Output) ≡ false → read_set_row line ≡ Err LineForm
  unfolding read_side
  row_other_word d u = row_three ∙ rw (d, u)

module _ (side : Side) (a m : List ℕ) where
  pub rest_missing : is_empty m ≡ true → row_rest side a m ≡ Err LineForm
  unfolding row_rest
  rest_missing t = rw t

  pub rest_no_activity : is_empty m ≡ false → parse_number highest a ≡ None → row_rest side a m ≡ Err NumberForm
  unfolding row_rest
  rest_no_activity d q = rw (d, q)

  pub rest_no_members : is_empty m ≡ false → (k : ℕ) → parse_number highest a ≡ Some k → parse_members m ≡ None → row_rest side a m ≡ Err NumberForm
  unfolding row_rest
  rest_no_members d k q r = rw (d, q, r)

  pub rest_set : is_empty m ≡ false → (k x : ℕ) → parse_number highest a ≡ Some k → parse_members m ≡ Some x → row_rest side a m ≡ Ok (row_of_set side k x)
  unfolding row_rest
  rest_set d k x q r = rw (d, q, r)

-- the parts of a row that was read
pub row_parts : (s t : Side) (a b m x : ℕ) → ◌≡◌ {A = Result SetRow Refusal} (Ok (row_of_set s a m)) (Ok (row_of_set t b x)) → (s ≡ t) × (a ≡ b) × (m ≡ x)
row_parts s t a b m x e =
    let f : row_of_set s a m ≡ row_of_set t b x = cc in
    (ap (λ (r : SetRow). r.side) f, ap (λ (r : SetRow). r.activity) f, ap (λ (r : SetRow). r.set) f)

-- ---- what the code's tests say

other_in : (w : List ℕ) → (length w ≡ 2 → get_or w 0 0 ≡ 105 → get_or w 1 0 ≡ 110 → ⊥) → same_bytes w (side_word Input) ≡ false
other_in w d = ⊎_elim (λ t. absurd (let e = same_equal w (side_word Input) t in d (ap length e) (ap (λ (l : List ℕ). get_or l 0 0) e) (ap (λ (l : List ℕ). get_or l 1 0) e))) (λ f. f) (true_or_false (same_bytes w (side_word Input)))

other_out : (w : List ℕ) → (length w ≡ 3 → get_or w 0 0 ≡ 111 → get_or w 1 0 ≡ 117 → get_or w 2 0 ≡ 116 → ⊥) → same_bytes w (side_word Output) ≡ false
other_out w d = ⊎_elim (λ t. absurd (let e = same_equal w (side_word Output) t in d (ap length e) (ap (λ (l : List ℕ). get_or l 0 0) e) (ap (λ (l : List ℕ). get_or l 1 0) e) (ap (λ (l : List ℕ). get_or l 2 0) e))) (λ f. f) (true_or_false (same_bytes w (side_word Output)))

pub side_in : (w : List ℕ) → length w ≡ 2 → get_or w 0 0 ≡ 105 → get_or w 1 0 ≡ 110 → Ok Input ≡ read_side w
unfolding read_side
side_in [] l a b = absurd (omega arith)
side_in (x ∷ []) l a b = absurd (omega arith)
side_in (x ∷ y ∷ []) l a b = rw (a, b) refl
side_in (x ∷ y ∷ z ∷ w) l a b = absurd (omega arith)

pub side_out : (w : List ℕ) → length w ≡ 3 → get_or w 0 0 ≡ 111 → get_or w 1 0 ≡ 117 → get_or w 2 0 ≡ 116 → Ok Output ≡ read_side w
unfolding read_side
side_out [] l a b d = absurd (omega arith)
side_out (x ∷ []) l a b d = absurd (omega arith)
side_out (x ∷ y ∷ []) l a b d = absurd (omega arith)
side_out (x ∷ y ∷ z ∷ []) l a b d = rw (a, b, d) refl
side_out (x ∷ y ∷ z ∷ u ∷ w) l a b d = absurd (omega arith)

pub side_other : (w : List ℕ) → (length w ≡ 2 → get_or w 0 0 ≡ 105 → get_or w 1 0 ≡ 110 → ⊥) → (length w ≡ 3 → get_or w 0 0 ≡ 111 → get_or w 1 0 ≡ 117 → get_or w 2 0 ≡ 116 → ⊥) → Err LineForm ≡ read_side w
unfolding read_side
side_other w d u = rw (other_in w d, other_out w u)

-- what a match of the two words comes to, byte for byte
pub ruleset side_words = (side_in, side_out, side_other)

-- a number that could not be read
pub not_read : (o : Option ℕ) (f r : Refusal) → o ≡ None → Err f ≡ ok_or o r → f ≡ r
not_read o f r q e = let z : ◌≡◌ {A = Result ℕ Refusal} (Err f) (Err r) = rw q at e in cc
