-- Laws of answers: a line that is a row, and what is answered and what the buffer then holds. Assumes nothing.
use Prim.Native.Nat.{ℕ, ◌+◌, ◌≤◌}
use mathlib.Core.Path.{◌≡◌, refl, sym, ap, ◌∙◌}
use mathlib.Core.Bool.{Bool, true, false, ◌&&◌, cond}
use mathlib.Core.List.{List, [], ◌∷◌, Memᴰ}
use native.Mathlib.Omega.{arith}
use borrow.Author.Tests.{leb-true}
use lib.Dec.{leb}
use lib.ListN.{length, length-map}
use Rattle.obligations.specs.Limits.{positions}
use Rattle.obligations.proofs.BoolLaws.{and_left, and_right}
use Rattle.net.specs.Refusals.{outside_limits, number_form}
use Rattle.text.specs.Fields.{comma, split}
use Rattle.text.specs.Decimal.{value, all_numbers, values}
use Rattle.text.specs.Members.{highest}
use Rattle.text.proofs.DecimalLaws.{number_most, values_most}
use Rattle.logfile.specs.Limits.{log_rows, most_sessions}
use Rattle.logfile.specs.LogFile.{RowReading, row, end, fault, is_sessions, entries, read_fields, read_parts, read_line, row_means, RowRead}
use Rattle.logfile.specs.Refusals.{row_text}
use Rattle.std.specs.Prelude.{Ok, Err, Some, None}
use Rattle.net.specs.declared.refusal.Refused.{Refused}
use Rattle.logfile.specs.Row.{fault_of, IsTrace, TraceFilled, RowOnLine}
use Rattle.logfile.specs.declared.Row.{Row}
use Rattle.logfile.proofs.PrintLaws.{sessions-number, row_printed}

-- ---- a line that is a row

pub record LineRow (n : ℕ) (l : List ℕ) (s : ℕ) (t : List ℕ) : Type 0 where
  pub first : List ℕ
  pub trace : List ℕ
  pub fields : split comma l ≡ first ∷ trace ∷ []
  pub sessions_right : is_sessions first ≡ true
  pub sessions_are : s ≡ value first
  pub numbers : all_numbers highest (entries trace) ≡ true
  pub few : length (entries trace) ≤ positions
  pub trace_is : t ≡ values (entries trace)
  pub line_low : n ≤ log_rows + 1

pub line_row : (n : ℕ) (l : List ℕ) (s : ℕ) (t : List ℕ) → read_line n l ≡ row s t → LineRow n l s t
unfolding read_line read_fields
line_row n l s t = go (split comma l) refl
  where
    told : (f g : List ℕ) → split comma l ≡ f ∷ g ∷ [] → (a b : Bool) → is_sessions f && all_numbers highest (entries g) ≡ a → leb (length (entries g)) positions && leb n (log_rows + 1) ≡ b
        → cond a (cond b (row (value f) (values (entries g))) (fault outside_limits n)) (fault number_form n) ≡ row s t → LineRow n l s t
    told f g e true true p q r =
        record {
          first = f;
          trace = g;
          fields = e;
          sessions_right = and_left (is_sessions f) (all_numbers highest (entries g)) p;
          sessions_are = (cc);
          numbers = and_right (is_sessions f) (all_numbers highest (entries g)) p;
          few = leb-true (length (entries g)) positions (and_left (leb (length (entries g)) positions) (leb n (log_rows + 1)) q);
          trace_is = (cc);
          line_low = leb-true n (log_rows + 1) (and_right (leb (length (entries g)) positions) (leb n (log_rows + 1)) q);
        }
    told f g e true false p q r = let z : ◌≡◌ {A = ℕ} 0 1 = cc in absurd (omega arith)
    told f g e false b p q r = let z : ◌≡◌ {A = ℕ} 0 1 = cc in absurd (omega arith)

    go : (fs : List (List ℕ)) → split comma l ≡ fs → read_parts n fs ≡ row s t → LineRow n l s t
    go [] e r = let z : ◌≡◌ {A = ℕ} 0 1 = cc in absurd (omega arith)
    go (f ∷ []) e r = let z : ◌≡◌ {A = ℕ} 0 1 = cc in absurd (omega arith)
    go (f ∷ g ∷ []) e r = told f g e (is_sessions f && all_numbers highest (entries g)) (leb (length (entries g)) positions && leb n (log_rows + 1)) refl refl r
    go (f ∷ g ∷ h ∷ fs) e r = let z : ◌≡◌ {A = ℕ} 0 1 = cc in absurd (omega arith)

-- it is the print of its sessions and trace, which are within their limits
pub line_printed : {n : ℕ} {l : List ℕ} {s : ℕ} {t : List ℕ} → LineRow n l s t → l ≡ row_text s t
line_printed {l} r = rw (r.sessions_are, r.trace_is) (row_printed l r.first r.trace r.fields r.sessions_right r.numbers)

pub line-sessions : {n : ℕ} {l : List ℕ} {s : ℕ} {t : List ℕ} → LineRow n l s t → (1 ≤ s) × (s ≤ most_sessions)
line-sessions r =
    let q = sessions-number r.first r.sessions_right in
    (omega (arith, r.sessions_are, q.1), omega (arith, r.sessions_are, number_most most_sessions r.first q.0))

pub line-entries : {n : ℕ} {l : List ℕ} {s : ℕ} {t : List ℕ} → LineRow n l s t → (k : ℕ) → Memᴰ k t → k ≤ highest
line-entries r k m = values_most highest (entries r.trace) r.numbers k (rw r.trace_is at m)

-- ---- what is answered

-- a refusal or "end" leaves the buffer
pub read_fault : (x : RowReading) (r : Refused) (out : List ℕ) → x ≡ fault_of r → RowRead x out (Err r) out
read_fault x r out e = rw e (record { says = refl; leaves = refl })

pub read_end : (x : RowReading) (out : List ℕ) → x ≡ end → RowRead x out (Ok None) out
read_end x out e = rw e (record { says = refl; leaves = refl })

-- and a row is given with its trace at the front
pub read_given : (x : RowReading) (n : ℕ) (l : List ℕ) (r : Row) (trace out₀ out : List ℕ) → x ≡ read_line n l → RowOnLine n l r trace → TraceFilled trace out₀ out → RowRead x out₀ (Ok (Some r)) out
read_given x n l r trace out₀ out e w f =
    let k : length (values (entries trace)) ≡ length (entries trace) = length-map (entries trace) value in
    rw (e ∙ w.reads) (record { says = ap (λ (m : ℕ). row_means (Ok (Some (record { sessions = r.sessions; length = m })))) (sym w.long ∙ sym k); leaves = rw k f })

-- a buffer that has room for every row has room for this one
pub trace_fits : {n : ℕ} {l : List ℕ} {r : Row} {trace : List ℕ} (room : ℕ) → RowOnLine n l r trace → positions ≤ room → IsTrace trace room
trace_fits room w h = record { numbers = w.is_trace.numbers; few = omega (arith, w.is_trace.few) }
