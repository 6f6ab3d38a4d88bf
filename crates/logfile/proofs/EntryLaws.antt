-- Laws of a trace field's entries, for the walks that count and write them: what the next entry decides, and what is left behind it.
-- Assumes nothing.
use Prim.Native.Nat.{ℕ, suc, ◌+◌, ◌≤◌, ◌<◌}
use mathlib.Core.Path.{◌≡◌, refl, sym, ap, ◌∙◌}
use mathlib.Core.Bool.{Bool, true, false, cond}
use mathlib.Core.List.{List, [], ◌∷◌, ◌++◌}
use native.Mathlib.Nat.{zero-add}
use native.Mathlib.Numerals.{add-one}
use native.Mathlib.Omega.{arith}
use borrow.Author.Tests.{eqb-true}
use lib.ListN.{length, set, drop, length-set, length-map}
use lib.Dec.{eqb}
use lib.Seq.{sets, sets-eq}
use Rattle.obligations.specs.Tests.{indicator}
use Rattle.text.specs.Bytes.{occurrences}
use Rattle.text.proofs.FieldLaws.{length-split}
use Rattle.std.specs.Prelude.{◌==◌, Some, None}
use Rattle.obligations.proofs.BoolLaws.{and_left, and_right, false-not-true}
use Rattle.text.specs.Fields.{space, split}
use Rattle.text.specs.Decimal.{value, is_number, parse_number, all_numbers, values}
use Rattle.text.specs.Members.{highest}
use Rattle.text.proofs.DecimalLaws.{number-value, number-refused}
use Rattle.logfile.specs.LogFile.{entries}
use Rattle.logfile.specs.Row.{count_entries, IsTrace, TraceFilled}

-- ---- the entries of a trace field

pub entries_none : (t : List ℕ) → true ≡ (length t == 0) → entries t ≡ []
entries_none [] q = refl
entries_none (b ∷ t) q = absurd (omega (arith, eqb-true (suc (length t)) 0 (sym q)))

pub entries_some : (t : List ℕ) → false ≡ (length t == 0) → entries t ≡ split space t
entries_some [] q = absurd (false-not-true (sym q) refl)
entries_some (b ∷ t) q = refl

pub count_none : (t : List ℕ) → entries t ≡ [] → Some 0 ≡ count_entries t
unfolding count_entries
count_none t q = rw q

-- all are numbers, or not all
pub counted-value : (t : List ℕ) (k : ℕ) → count_entries t ≡ Some k → (all_numbers highest (entries t) ≡ true) × (length (entries t) ≡ k)
unfolding count_entries
counted-value t k = go (all_numbers highest (entries t))
  where
    go : (b : Bool) → cond b (Some (length (entries t))) None ≡ Some k → (b ≡ true) × (length (entries t) ≡ k)
    go true q = (refl, cc)
    go false q = cc

pub counted-refused : (t : List ℕ) → count_entries t ≡ None → all_numbers highest (entries t) ≡ false
unfolding count_entries
counted-refused t = go (all_numbers highest (entries t))
  where
    go : (b : Bool) → cond b (Some (length (entries t))) None ≡ None → b ≡ false
    go true q = cc
    go false q = refl

-- a trace has hardly more entries than bytes
occurrences_most : (c : ℕ) (s : List ℕ) → occurrences c s ≤ length s
occurrences_most c [] = omega arith
occurrences_most c (b ∷ s) = go (eqb b c) (occurrences_most c s)
  where
    go : (t : Bool) → occurrences c s ≤ length s → indicator t + occurrences c s ≤ suc (length s)
    go true h = omega arith
    go false h = omega arith

pub few_fields : (t : List ℕ) → length (split space t) ≤ length t + 1
few_fields t = omega (arith, length-split space t, occurrences_most space t)

-- ---- counting them: n entries stand before those left, and all are numbers exactly if those left are

pub record Counting (fs : List (List ℕ)) (n : ℕ) (left : List (List ℕ)) : Type 0 where
  pub total : n + length left ≡ length fs
  pub numbers : all_numbers highest fs ≡ all_numbers highest left

pub counting-start : (fs left : List (List ℕ)) → left ≡ fs → Counting fs 0 left
counting-start fs left e = rw e (record { total = zero-add (length fs); numbers = refl })

module _ (fs : List (List ℕ)) (n : ℕ) (left : List (List ℕ)) (c : Counting fs n left) where
  pub counting_refused : (f : List ℕ) (rest : List (List ℕ)) → left ≡ f ∷ rest → parse_number highest f ≡ None → all_numbers highest fs ≡ false
  counting_refused f rest e r = c.numbers ∙ rw (e, number-refused highest f r)

  pub counting_more : (f : List ℕ) (rest : List (List ℕ)) (k : ℕ) → left ≡ f ∷ rest → parse_number highest f ≡ Some k → Counting fs (n + 1) rest
  counting_more f rest k e r = record { total = omega (arith, c.total, ap length e); numbers = c.numbers ∙ rw (e, (number-value highest f k r).0) }

  pub counting_end : left ≡ [] → (all_numbers highest fs ≡ true) × (n ≡ length fs)
  counting_end e = (c.numbers ∙ rw e, omega (arith, c.total, ap length e))

-- ---- writing them: those left, stored from k on, give the buffer with all stored

pub record Filling (out₀ : List ℕ) (fs : List (List ℕ)) (k : ℕ) (left : List (List ℕ)) (out : List ℕ) : Type 0 where
  pub room : length fs ≤ length out₀
  pub same : length out ≡ length out₀
  pub total : k + length left ≡ length fs
  pub numbers : all_numbers highest left ≡ true
  pub text : sets out k (values left) ≡ sets out₀ 0 (values fs)

pub filled_none : (t out : List ℕ) → entries t ≡ [] → TraceFilled t out out
filled_none t out q = rw q

pub filling_start : (t out : List ℕ) (k : ℕ) (left : List (List ℕ)) → IsTrace t (length out) → entries t ≡ split space t → left ≡ split space t → k ≡ 0 → Filling out (split space t) k left out
filling_start t out k left f q e z =
    rw (e, z)
    (record {
      room = rw q at f.few;
      same = refl;
      total = zero-add (length (split space t));
      numbers = rw q at f.numbers;
      text = refl;
    })

module _ (out₀ : List ℕ) (fs : List (List ℕ)) (k : ℕ) (left : List (List ℕ)) (out : List ℕ) (c : Filling out₀ fs k left out) where
  module _ (f : List ℕ) (rest : List (List ℕ)) (e : left ≡ f ∷ rest) where
    filling_number : is_number highest f ≡ true
    filling_number = and_left (is_number highest f) (all_numbers highest rest) (rw e at c.numbers)

    pub filling_value : parse_number highest f ≡ Some (value f)
    unfolding parse_number
    filling_value = rw filling_number

    pub filling_room : k < length out
    filling_room = omega (arith, c.total, c.room, c.same, ap length e)

    pub filling_more : (w j : ℕ) → w ≡ value f → j ≡ k + 1 → Filling out₀ fs j rest (set out k w)
    filling_more w j v m =
        rw m
        (record {
          room = c.room;
          same = length-set out k w ∙ c.same;
          total = omega (arith, c.total, ap length e);
          numbers = and_right (is_number highest f) (all_numbers highest rest) (rw e at c.numbers);
          text = rw (v, add-one k) (rw e at c.text);
        })

  pub filling_end : left ≡ [] → out ≡ values fs ++ drop (length fs) out₀
  filling_end e =
      let n : length (values fs) ≡ length fs = length-map fs value in
      let t : out ≡ sets out₀ 0 (values fs) = rw e at c.text in
      t ∙ sets-eq (values fs) out₀ 0 (omega (arith, c.room)) ∙ rw (zero-add (length (values fs)), n)
