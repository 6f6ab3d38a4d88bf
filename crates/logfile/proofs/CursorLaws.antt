-- Laws of reading on: the line that a row was read from, the rows after it, and the cursor after k rows. Assumes nothing.
use Prim.Native.Nat.{ℕ, zero, suc, ◌+◌, ◌-◌, ◌≤◌, ◌<◌, min, max}
use mathlib.Core.Path.{◌≡◌, refl, sym, ap, ◌∙◌}
use mathlib.Core.Logic.{⊎_elim}
use mathlib.Core.Bool.{Bool, true, false, ◌&&◌, cond}
use mathlib.Core.List.{List, [], ◌∷◌}
use native.Mathlib.Nat.{add-zero, zero-add, suc-add}
use native.Mathlib.Omega.{arith}
use borrow.Author.Tests.{lt-ltb, ltb-true}
use lib.Dec.{leb, ltb}
use lib.ListN.{length, get_or, drop}
use lib.Seq.{slice}
use Rattle.obligations.specs.Limits.{positions}
use Rattle.obligations.proofs.BoolLaws.{and_left}
use Rattle.obligations.proofs.SetLaws.{lt_or_le}
use Rattle.text.specs.Bytes.{same_bytes}
use Rattle.text.specs.Lines.{lines}
use Rattle.text.specs.Inner.{line_end, next_line}
use Rattle.text.specs.Fields.{comma, split}
use Rattle.text.specs.Decimal.{value, all_numbers, values}
use Rattle.text.specs.Members.{highest}
use Rattle.net.specs.Refusals.{outside_limits, line_form, number_form}
use Rattle.logfile.specs.Limits.{log_rows}
use Rattle.logfile.specs.LogFile.{RowReading, row, end, fault, is_sessions, entries, read_fields, read_parts, read_line, past, row_after, log_header, after_header, sizes_ok, read_row}
use Rattle.logfile.specs.Refusals.{LineIs}
use Rattle.logfile.specs.Cursor.{start, from_line, standing, read_next, row_start, cursor_after, Reached, at_start, one_more}
use Rattle.logfile.specs.Row.{begun}
use Rattle.logfile.specs.declared.Cursor.{Cursor}
use Rattle.std.specs.Prelude.{Option, Some, None}
use Rattle.logfile.proofs.FileLaws.{Passed, begun-passed, rows-past, row_unfit, row_start_lem, next_unfit, next_differs, next_end, next_here}

-- what isn't a row is no row
end_no_row : {s : ℕ} {t : List ℕ} → end ≡ row s t → ⊥
end_no_row e = let z : ◌≡◌ {A = ℕ} 0 1 = cc in omega arith

fault_no_row : {n p s : ℕ} {t : List ℕ} → fault n p ≡ row s t → ⊥
fault_no_row e = let z : ◌≡◌ {A = ℕ} 0 1 = cc in omega arith

end_no_fault : {n p : ℕ} → end ≡ fault n p → ⊥
end_no_fault e = let z : ◌≡◌ {A = ℕ} 0 1 = cc in omega arith

past_row : (x y : RowReading) (s : ℕ) (t : List ℕ) → past x y ≡ row s t → y ≡ row s t
past_row (row a b) y s t e = e
past_row end y s t e = absurd (end_no_row e)
past_row (fault n p) y s t e = absurd (fault_no_row e)

-- ---- the line of a row with k rows before it

row_line : (n k : ℕ) (ls : List (List ℕ)) (s : ℕ) (t : List ℕ) → row_after n k ls ≡ row s t → (k < length ls) × (read_line (n + k) (get_or ls k []) ≡ row s t)
unfolding row_after
row_line n k [] s t e = absurd (end_no_row e)
row_line n zero (l ∷ ls) s t e = (omega arith, rw (add-zero n) e)
row_line n (suc k) (l ∷ ls) s t e =
    let w = row_line (n + 1) k ls s t (past_row (read_line n l) (row_after (n + 1) k ls) s t e) in
    let q : n + 1 + k ≡ n + suc k = omega arith in
    (omega (arith, w.0), rw q at w.1)

-- "end" is said of no line, and so after the last
line_no_end : (n : ℕ) (l : List ℕ) → read_line n l ≡ end → ⊥
unfolding read_line read_fields
line_no_end n l = go (split comma l)
  where
    told : (a b : Bool) (s : ℕ) (t : List ℕ) → cond a (cond b (row s t) (fault outside_limits n)) (fault number_form n) ≡ end → ⊥
    told true true s t e = end_no_row (sym e)
    told true false s t e = end_no_fault (sym e)
    told false b s t e = end_no_fault (sym e)

    go : (fs : List (List ℕ)) → read_parts n fs ≡ end → ⊥
    go [] e = end_no_fault (sym e)
    go (f ∷ []) e = end_no_fault (sym e)
    go (f ∷ g ∷ []) e = told (is_sessions f && all_numbers highest (entries g)) (leb (length (entries g)) positions && leb n (log_rows + 1)) (value f) (values (entries g)) e
    go (f ∷ g ∷ h ∷ fs) e = end_no_fault (sym e)

no_line : (n k : ℕ) (ls : List (List ℕ)) → row_after n k ls ≡ end → length ls ≤ k
unfolding row_after
no_line n k [] e = omega arith
no_line n zero (l ∷ ls) e = absurd (line_no_end n l e)
no_line n (suc k) (l ∷ ls) e = go (read_line n l) (line_no_end n l) (no_line (n + 1) k ls) e
  where
    go : (x : RowReading) → (x ≡ end → ⊥) → (row_after (n + 1) k ls ≡ end → length ls ≤ k) → past x (row_after (n + 1) k ls) ≡ end → suc (length ls) ≤ suc k
    go (row s t) f ih e = omega (arith, ih e)
    go end f ih e = absurd (f refl)
    go (fault m p) f ih e = absurd (end_no_fault (sym e))

-- what isn't refused was asked for, with a text and a buffer that fit, and is read from the rows after the right header
record FromRows (text : List ℕ) (r : ℕ) (x : RowReading) : Type 0 where
  asked : 1 ≤ r
  header : List ℕ
  rows : List (List ℕ)
  parts : lines text ≡ header ∷ rows
  reads : row_after 2 (r - 1) rows ≡ x

module _ (text : List ℕ) (r room : ℕ) where
  from_rows : (x : RowReading) → ((n p : ℕ) → x ≡ fault n p → ⊥) → read_row text r room ≡ x → FromRows text r x
  unfolding read_row
  from_rows x f = go (ltb 0 r && sizes_ok text room) refl
    where
      right : (b : Bool) (ls : List (List ℕ)) → cond b (row_after 2 (r - 1) ls) (fault line_form 1) ≡ x → row_after 2 (r - 1) ls ≡ x
      right true ls e = e
      right false ls e = absurd (f line_form 1 (sym e))

      rest : 1 ≤ r → (ls : List (List ℕ)) → lines text ≡ ls → after_header (r - 1) ls ≡ x → FromRows text r x
      rest a [] q e = absurd (f line_form 1 (sym e))
      rest a (h ∷ ls) q e = record { asked = a; header = h; rows = ls; parts = q; reads = right (same_bytes h log_header) ls e }

      go : (b : Bool) → ltb 0 r && sizes_ok text room ≡ b → cond b (after_header (r - 1) (lines text)) (fault outside_limits 0) ≡ x → FromRows text r x
      go true p e = rest (ltb-true 0 r (and_left (ltb 0 r) (sizes_ok text room) p)) (lines text) refl e
      go false p e = absurd (f outside_limits 0 (sym e))

  -- row r is on line r + 1, and "end" is said only if there is no such line
  pub row_on_line : (s : ℕ) (t : List ℕ) → read_row text r room ≡ row s t → (l : List ℕ) × LineIs text (r + 1) l × (read_line (r + 1) l ≡ row s t)
  row_on_line s t e =
      let w = from_rows (row s t) (λ n p q. fault_no_row (sym q)) e in
      let v = row_line 2 (r - 1) w.rows s t w.reads in
      let n : 2 + (r - 1) ≡ r + 1 = omega arith in
      let m : r + 1 - 1 ≡ suc (r - 1) = omega arith in
      (get_or w.rows (r - 1) [], record { low = omega arith; high = omega (arith, v.0, ap length w.parts); there = rw (w.parts, m) }, rw n at v.1)

  pub end_no_line : read_row text r room ≡ end → (l : List ℕ) → LineIs text (r + 1) l → ⊥
  end_no_line e l at =
      let w = from_rows end (λ n p. end_no_fault) e in
      omega (arith, no_line 2 (r - 1) w.rows w.reads, ap length w.parts)

-- ---- a row that isn't given, and those after it

past-stays : (x y : RowReading) → ((s : ℕ) (t : List ℕ) → x ≡ row s t → ⊥) → past x y ≡ x
past-stays (row s t) y h = absurd (h s t refl)
past-stays end y h = refl
past-stays (fault n p) y h = refl

stays_after : (n k j : ℕ) (ls : List (List ℕ)) → ((s : ℕ) (t : List ℕ) → row_after n k ls ≡ row s t → ⊥) → row_after n (k + j) ls ≡ row_after n k ls
unfolding row_after
stays_after n k j [] h = refl
stays_after n zero zero (l ∷ ls) h = refl
stays_after n zero (suc j) (l ∷ ls) h = rw (zero-add (suc j)) (past-stays (read_line n l) (row_after (n + 1) j ls) h)
stays_after n (suc k) j (l ∷ ls) h = rw (suc-add k j) (go (read_line n l) h (λ g. stays_after (n + 1) k j ls g))
  where
    go : (x : RowReading) → ((s : ℕ) (t : List ℕ) → past x (row_after (n + 1) k ls) ≡ row s t → ⊥)
        → (((s : ℕ) (t : List ℕ) → row_after (n + 1) k ls ≡ row s t → ⊥) → row_after (n + 1) (k + j) ls ≡ row_after (n + 1) k ls)
        → past x (row_after (n + 1) (k + j) ls) ≡ past x (row_after (n + 1) k ls)
    go (row s t) g ih = ih g
    go end g ih = refl
    go (fault n p) g ih = refl

stays_header : (k j : ℕ) (ls : List (List ℕ)) → ((s : ℕ) (t : List ℕ) → after_header k ls ≡ row s t → ⊥) → after_header (k + j) ls ≡ after_header k ls
stays_header k j [] h = refl
stays_header k j (l ∷ ls) h = go (same_bytes l log_header) h
  where
    go : (b : Bool) → ((s : ℕ) (t : List ℕ) → cond b (row_after 2 k ls) (fault line_form 1) ≡ row s t → ⊥) → cond b (row_after 2 (k + j) ls) (fault line_form 1) ≡ cond b (row_after 2 k ls) (fault line_form 1)
    go true g = stays_after 2 k j ls g
    go false g = refl

pub later_same : (text : List ℕ) (r q room : ℕ) → 1 ≤ r → r ≤ q → ((s : ℕ) (t : List ℕ) → read_row text r room ≡ row s t → ⊥) → read_row text q room ≡ read_row text r room
unfolding read_row
later_same text r q room h l = rw (lt-ltb 0 r h, lt-ltb 0 q (omega arith)) (go (sizes_ok text room))
  where
    go : (b : Bool) → ((s : ℕ) (t : List ℕ) → cond b (after_header (r - 1) (lines text)) (fault outside_limits 0) ≡ row s t → ⊥)
        → cond b (after_header (q - 1) (lines text)) (fault outside_limits 0) ≡ cond b (after_header (r - 1) (lines text)) (fault outside_limits 0)
    go true g =
        let e : q - 1 ≡ r - 1 + (q - r) = omega arith in
        rw e (stays_header (r - 1) (q - r) (lines text) g)
    go false g = refl

-- ---- the cursor

-- a cursor's row: the line that it was read from
pub record RowAt (text : List ℕ) (c : Cursor) (s : ℕ) (t : List ℕ) : Type 0 where
  pub i : ℕ
  pub n : ℕ
  pub passed : Passed text (standing text c) c.line i n
  pub inside : i < length text
  pub reads : read_line n (slice i (line_end text i) text) ≡ row s t

row_at : (text : List ℕ) (c : Cursor) (room s : ℕ) (t : List ℕ) → read_next text c room ≡ row s t → (sizes_ok text room ≡ true) × RowAt text c s t
row_at text c room s t e = fit (sizes_ok text room) refl
  where
    at : sizes_ok text room ≡ true → (b : Option Cursor) → begun text (standing text c) c.line ≡ b → RowAt text c s t
    at f None b = absurd (fault_no_row (sym (next_differs text c room f b) ∙ e))
    at f (Some k) b =
        let i : ℕ = k.at in
        let n : ℕ = k.line in
        let p = begun-passed text (standing text c) c.line i n (omega arith) b in
        ⊎_elim
        (λ h. record { i = i; n = n; passed = p; inside = h; reads = sym (next_here text c room f i n p (line_end text i) h refl) ∙ e })
        (λ h. absurd (end_no_row (sym (next_end text c room f i n p h) ∙ e)))
        (lt_or_le i (length text))

    fit : (b : Bool) → sizes_ok text room ≡ b → (sizes_ok text room ≡ true) × RowAt text c s t
    fit true f = (f, at f (begun text (standing text c) c.line) refl)
    fit false f = absurd (fault_no_row (sym (next_unfit text c room f) ∙ e))

start-at : (text : List ℕ) (c : Cursor) (i n : ℕ) → Passed text (standing text c) c.line i n → row_start text c ≡ i
unfolding row_start
start-at text c i n p = sym p.start_is

from_row : (n k : ℕ) (ls : List (List ℕ)) → 1 < n → from_line n k ls ≡ row_after n k ls
unfolding from_line
from_row n k ls h = rw (lt-ltb 1 n h)

-- row k + 1 and those after it are read from the cursor on
abbrev Stands : List ℕ → ℕ → ℕ → Cursor → Type 0
Stands text room k c = (j : ℕ) → read_row text (suc k + j) room ≡ from_line c.line j (lines (drop (standing text c) text))

stands_start : (text : List ℕ) (room : ℕ) → sizes_ok text room ≡ true → Stands text room 0 start
stands_start text room f j =
    let z : standing text start ≡ 0 = omega arith in
    let e : 1 + j - 1 ≡ j = omega arith in
    rw z (row_start_lem text (1 + j) room (omega arith) f ∙ ap (λ (k : ℕ). from_line 1 k (lines (drop 0 text))) e)

stands_more : (text : List ℕ) (room k : ℕ) (c : Cursor) (s : ℕ) (t : List ℕ) → Stands text room k c → RowAt text c s t → Stands text room (suc k) (cursor_after text c (row s t))
stands_more text room k c s t h r j =
    let e : ℕ = line_end text r.i in
    let u : suc (suc k) + j ≡ suc k + suc j = omega arith in
    let w : standing text (cursor_after text c (row s t)) ≡ next_line text e = ap (λ (i : ℕ). min (next_line text (line_end text i)) (length text)) (start-at text c r.i r.n r.passed) ∙ omega arith in
    let m : max 2 c.line ≡ r.n = sym r.passed.line_is in
    ap (λ (q : ℕ). read_row text q room) u
    ∙ h (suc j)
    ∙ r.passed.reads (suc j)
    ∙ rows-past text r.i r.n e j r.inside refl
    ∙ ap (λ (x : RowReading). past x (row_after (r.n + 1) j (lines (drop (next_line text e) text)))) r.reads
    ∙ sym (rw (w, m) (from_row (r.n + 1) j (lines (drop (next_line text e) text)) (omega (arith, r.passed.low))))

reached_stands : (text : List ℕ) (room k : ℕ) (c : Cursor) → sizes_ok text room ≡ true → Reached text room k c → Stands text room k c
reached_stands text room k c f at_start = stands_start text room f
reached_stands text room k c f (one_more {k = k'} {c = c'} s t w e) = stands_more text room k' c' s t (reached_stands text room k' c' f w) (row_at text c' room s t e).1

pub cursor_reads-next : (text : List ℕ) (room k : ℕ) (c : Cursor) → Reached text room k c → read_next text c room ≡ read_row text (suc k) room
unfolding read_next
cursor_reads-next text room k c w = go (sizes_ok text room) refl
  where
    go : (b : Bool) → sizes_ok text room ≡ b → cond b (from_line c.line 0 (lines (drop (standing text c) text))) (fault outside_limits 0) ≡ read_row text (suc k) room
    go true f = sym (rw (add-zero (suc k)) at (reached_stands text room k c f w 0))
    go false f = sym (row_unfit text (suc k) room f)
