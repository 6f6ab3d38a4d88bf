-- Laws of one row's line: its two fields, and what each test of a number decides. Assumes nothing.
use Prim.Native.Nat.{ℕ, ◌+◌, ◌≤◌, ◌<◌}
use mathlib.Core.Path.{◌≡◌, refl, sym, ◌∙◌}
use mathlib.Core.Bool.{Bool, true, false, ◌&&◌, and-false, cond, not}
use mathlib.Core.List.{List, [], ◌∷◌}
use native.Mathlib.Omega.{arith}
use borrow.Author.Tests.{le-leb, lt-leb, le-ltb, lt-ltb, eq-eqb, ne_eqb}
use lib.Dec.{leb, eqb}
use native.Mathlib.Decide.{ℕ_discrete as dec_eq}
use lib.ListN.{length}
use Rattle.std.specs.Prelude.{Option, Some, None, Result, Err}
use Rattle.std.specs.Bool.{then_some}
use Rattle.std.specs.Option.{MatchOption, ok_or}
use Rattle.net.specs.declared.refusal.Refused.{Refused}
use Rattle.obligations.specs.Limits.{positions}
use Rattle.net.specs.Refusals.{outside_limits, line_form, number_form}
use Rattle.text.specs.Fields.{comma, split}
use Rattle.text.specs.Decimal.{value, parse_number, values}
use Rattle.text.proofs.DecimalLaws.{number-value, number-refused}
use Rattle.logfile.specs.Limits.{log_rows, most_sessions}
use Rattle.logfile.specs.LogFile.{row, fault, is_sessions, entries, read_fields, read_parts, read_line}
use Rattle.logfile.specs.Row.{parse_sessions, count_entries, RowOnLine}
use Rattle.logfile.proofs.EntryLaws.{counted-value, counted-refused}

-- ---- the fields of a row's line

pub line_not_two : (n : ℕ) (l : List ℕ) → (length (split comma l) ≡ 2 → ⊥) → read_line n l ≡ fault line_form n
unfolding read_line
line_not_two n l h = go (split comma l) h
  where
    go : (fs : List (List ℕ)) → (length fs ≡ 2 → ⊥) → read_parts n fs ≡ fault line_form n
    go [] f = refl
    go (a ∷ []) f = refl
    go (a ∷ b ∷ []) f = absurd (f refl)
    go (a ∷ b ∷ c ∷ fs) f = refl

line_fields : (n : ℕ) (l f t : List ℕ) → split comma l ≡ f ∷ t ∷ [] → read_line n l ≡ read_fields n f t
unfolding read_line
line_fields n l f t e = rw e

-- ---- the sessions of a field

pub sessions_read : (f : List ℕ) (v : ℕ) → parse_sessions f ≡ Some v → (is_sessions f ≡ true) × (value f ≡ v)
unfolding parse_sessions
sessions_read f v = go (is_sessions f)
  where
    go : (b : Bool) → cond b (Some (value f)) None ≡ Some v → (b ≡ true) × (value f ≡ v)
    go true q = (refl, cc)
    go false q = cc

pub sessions_not : (f : List ℕ) → parse_sessions f ≡ None → is_sessions f ≡ false
unfolding parse_sessions
sessions_not f = go (is_sessions f)
  where
    go : (b : Bool) → cond b (Some (value f)) None ≡ None → b ≡ false
    go true q = cc
    go false q = refl

-- the number that a field says, if the test on it that answers so lets it through
pub sessions_kept : (f : List ℕ) (Answers : ℕ → Bool → Type 0) → ((v : ℕ) (b : Bool) → Answers v b → b ≡ not (eqb v 0))
    → (o r : Option ℕ) → o ≡ parse_number most_sessions f → MatchOption o (r ≡ None) (λ v. (b : Bool) × Answers v b × (r ≡ then_some b v)) → r ≡ parse_sessions f
unfolding parse_sessions is_sessions
sessions_kept f Answers says None r q k = rw (k, number-refused most_sessions f (sym q)) refl
sessions_kept f Answers says (Some v) r q k =
    let w = number-value most_sessions f v (sym q) in
    let t : r ≡ then_some (not (eqb v 0)) v = rw (← says v k.0 k.1) k.2 in
    elim (dec_eq v 0) [
      | yes z ↦ t ∙ rw (w.0, w.1, eq-eqb v 0 z, le-ltb 0 v (omega (arith, z))) refl
      | no d ↦ t ∙ rw (w.0, w.1, ne_eqb v 0 d, lt-ltb 0 v (omega (arith, d))) refl
    ]

-- ---- what each test of a row decides

-- what could not be read
pub not_read : {T : Type 0} (o : Option T) (f r : Refused) → o ≡ None → ◌≡◌ {A = Result T Refused} (Err f) (ok_or o r) → f ≡ r
not_read {T} o f r q e = let z : ◌≡◌ {A = Result T Refused} (Err f) (Err r) = rw q at e in cc

module _ (n : ℕ) (l f t : List ℕ) (e : split comma l ≡ f ∷ t ∷ []) where
  pub row_no_sessions : parse_sessions f ≡ None → read_line n l ≡ fault number_form n
  unfolding read_fields
  row_no_sessions q = line_fields n l f t e ∙ rw (sessions_not f q)

  pub row_no_entries : count_entries t ≡ None → read_line n l ≡ fault number_form n
  unfolding read_fields
  row_no_entries q = line_fields n l f t e ∙ rw (counted-refused t q, and-false (is_sessions f))

  module _ (v k : ℕ) (q : parse_sessions f ≡ Some v) (m : count_entries t ≡ Some k) where
    row_numbers_lem : read_line n l ≡ cond (leb k positions && leb n (log_rows + 1)) (row v (values (entries t))) (fault outside_limits n)
    unfolding read_fields
    row_numbers_lem = let w = sessions_read f v q in let c = counted-value t k m in line_fields n l f t e ∙ rw (w.0, w.1, c.0, c.1)

    pub row_long : positions < k → read_line n l ≡ fault outside_limits n
    row_long h = row_numbers_lem ∙ rw (lt-leb k positions h)

    pub row_many : log_rows + 1 < n → read_line n l ≡ fault outside_limits n
    row_many h = row_numbers_lem ∙ rw (lt-leb n (log_rows + 1) h, and-false (leb k positions))

    pub row_good : k ≤ positions → n ≤ log_rows + 1 → RowOnLine n l (record { sessions = v; length = k }) t
    row_good h u =
        let c = counted-value t k m in
        record {
          reads = row_numbers_lem ∙ rw (le-leb k positions h, le-leb n (log_rows + 1) u);
          long = c.1;
          is_trace = record { numbers = c.0; few = omega (arith, c.1) };
        }
