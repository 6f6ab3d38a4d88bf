-- Laws of a log's lines: the header is passed or differs, and a reader that stands at a line finds what the definition says
-- of the lines from there on. Assumes nothing.
use Prim.Native.Nat.{ℕ, suc, ◌+◌, ◌-◌, ◌≤◌, ◌<◌, max}
use mathlib.Core.Path.{◌≡◌, refl, sym, ap, ◌∙◌}
use mathlib.Core.Logic.{◌↔◌, ⊎_elim}
use mathlib.Core.Bool.{Bool, true, false, and-false, cond}
use mathlib.Core.List.{List, [], ◌∷◌}
use native.Mathlib.Omega.{arith}
use borrow.Author.Tests.{leb-true, le-leb, lt-ltb, le-ltb, ltb-true, ltb-false}
use lib.Dec.{leb, ltb}
use lib.ListN.{length, take, drop, drop_of_length-le}
use lib.Seq.{slice, take_all}
use Rattle.obligations.specs.Limits.{positions}
use Rattle.obligations.proofs.BoolLaws.{and_left, and_right, and_both, false-not-true}
use Rattle.obligations.proofs.SetLaws.{lt_or_le}
use Rattle.net.specs.Refusals.{outside_limits, line_form}
use Rattle.text.specs.Bytes.{same_bytes}
use Rattle.text.specs.Lines.{lines}
use Rattle.text.specs.Inner.{line_length, line_end, next_line}
use Rattle.text.proofs.LineLaws.{lines_step, lines_end, rest_starts}
use Rattle.text.proofs.ByteLaws.{take_drop}
use Rattle.logfile.specs.Limits.{log_bytes, log_rows}
use Rattle.logfile.specs.LogFile.{RowReading, row, end, fault, read_line, past, row_after, log_header, after_header, sizes_ok, read_row}
use Rattle.std.specs.Prelude.{Option, Some, None}
use Rattle.logfile.specs.Row.{cursor_of, begun}
use Rattle.logfile.specs.Cursor.{start, from_line, standing, read_next, row_start, cursor_after}
use Rattle.logfile.specs.declared.Cursor.{Cursor}
use Rattle.logfile.proofs.AnswerLaws.{line_row}

-- ---- the header

pub begun-row : (s : List ℕ) (i n : ℕ) → 1 < n → begun s i n ≡ Some (cursor_of i n)
unfolding begun
begun-row s i n h = rw (lt-ltb 1 n h)

-- the line from an index on, as `split_line` gives it
line_is_slice : (s : List ℕ) (i : ℕ) (l : List ℕ) → l ≡ take (line_length (drop i s)) (drop i s) → l ≡ slice i (line_end s i) s
line_is_slice s i l e = e ∙ take_drop (line_length (drop i s)) i s

module _ (s : List ℕ) (i n : ℕ) (h : n ≤ 1) (l rest : List ℕ) (e : l ≡ take (line_length (drop i s)) (drop i s)) (f : rest ≡ drop (line_length (drop i s) + 2) (drop i s)) where
  pub begun_right : i ≤ length s → same_bytes l log_header ≡ true → begun s i n ≡ Some (cursor_of (length s - length rest) 2)
  unfolding begun
  begun_right k b = rw (le-ltb 1 n h, ← line_is_slice s i l e, b, f, rest_starts s i k)

  pub begun_wrong : same_bytes l log_header ≡ false → begun s i n ≡ None
  unfolding begun
  begun_wrong b = rw (le-ltb 1 n h, ← line_is_slice s i l e, b)

-- a reader at line n, which starts at i, passed the header if that was its line, and stands at line m, which starts at j
pub record Passed (s : List ℕ) (i n j m : ℕ) : Type 0 where
  pub inside : j ≤ length s
  pub low : 2 ≤ m
  pub line_is : m ≡ max 2 n
  pub start_is : j ≡ cond (ltb 1 n) i (next_line s (line_end s i))
  pub reads : (k : ℕ) → from_line n k (lines (drop i s)) ≡ row_after m k (lines (drop j s))

-- the lines at a header that is right, and at one that differs; at the text's end it differs, as there is none
header_right : (s : List ℕ) (i k : ℕ) → same_bytes (slice i (line_end s i) s) log_header ≡ true → after_header k (lines (drop i s)) ≡ row_after 2 k (lines (drop (next_line s (line_end s i)) s))
header_right s i k b = ⊎_elim (λ h. rw (lines_step s i (line_end s i) (next_line s (line_end s i)) h refl refl, b)) (λ h. absurd (none h)) (lt_or_le i (length s))
  where
    none : length s ≤ i → ⊥
    none h =
        let e : slice i (line_end s i) s ≡ [] = ap (drop i) (take_all (line_end s i) s (omega arith)) ∙ drop_of_length-le s h in
        false-not-true refl (rw e at b)

header_differs : (s : List ℕ) (i k : ℕ) → same_bytes (slice i (line_end s i) s) log_header ≡ false → after_header k (lines (drop i s)) ≡ fault line_form 1
header_differs s i k b = ⊎_elim (λ h. rw (lines_step s i (line_end s i) (next_line s (line_end s i)) h refl refl, b)) (λ h. rw (lines_end s i h)) (lt_or_le i (length s))

pub begun-passed : (s : List ℕ) (i n j m : ℕ) → i ≤ length s → begun s i n ≡ Some (cursor_of j m) → Passed s i n j m
unfolding begun from_line
begun-passed s i n j m h = go (ltb 1 n) refl (same_bytes (slice i (line_end s i) s) log_header) refl
  where
    go : (t : Bool) → ltb 1 n ≡ t → (b : Bool) → same_bytes (slice i (line_end s i) s) log_header ≡ b
        → cond t (Some (cursor_of i n)) (cond b (Some (cursor_of (next_line s (line_end s i)) 2)) None) ≡ Some (cursor_of j m) → Passed s i n j m
    go true p b q r =
        let q' : cursor_of i n ≡ cursor_of j m = cc in
        let ei : i ≡ j = ap (λ (c : Cursor). c.at) q' in
        let en : n ≡ m = ap (λ (c : Cursor). c.line) q' in
        let l : 1 < n = ltb-true 1 n p in
        rw (← ei, ← en) (record { inside = h; low = omega arith; line_is = omega arith; start_is = rw p; reads = λ k. rw p })
    go false p true q r =
        let q' : cursor_of (next_line s (line_end s i)) 2 ≡ cursor_of j m = cc in
        let ei : next_line s (line_end s i) ≡ j = ap (λ (c : Cursor). c.at) q' in
        let en : 2 ≡ m = ap (λ (c : Cursor). c.line) q' in
        let l : n ≤ 1 = ltb-false 1 n p in
        rw (← ei, ← en) (record { inside = omega arith; low = omega arith; line_is = omega arith; start_is = rw p; reads = λ k. rw p (header_right s i k q) })
    go false p false q r = let z : ◌≡◌ {A = ℕ} 0 1 = cc in absurd (omega arith)

pub begun_differs : (s : List ℕ) (i n k : ℕ) → begun s i n ≡ None → from_line n k (lines (drop i s)) ≡ fault line_form 1
unfolding begun from_line
begun_differs s i n k = go (ltb 1 n) (same_bytes (slice i (line_end s i) s) log_header) refl
  where
    go : (t : Bool) (b : Bool) → same_bytes (slice i (line_end s i) s) log_header ≡ b
        → cond t (Some (cursor_of i n)) (cond b (Some (cursor_of (next_line s (line_end s i)) 2)) None) ≡ None → cond t (row_after n k (lines (drop i s))) (after_header k (lines (drop i s))) ≡ fault line_form 1
    go true b q r = let z : ◌≡◌ {A = ℕ} 0 1 = cc in absurd (omega arith)
    go false true q r = let z : ◌≡◌ {A = ℕ} 0 1 = cc in absurd (omega arith)
    go false false q r = header_differs s i k q

-- ---- rows from an index on

rows_end : (s : List ℕ) (i n k : ℕ) → length s ≤ i → row_after n k (lines (drop i s)) ≡ end
unfolding row_after
rows_end s i n k h = rw (lines_end s i h)

rows-here : (s : List ℕ) (i n e : ℕ) → i < length s → e ≡ line_end s i → row_after n 0 (lines (drop i s)) ≡ read_line n (slice i e s)
unfolding row_after
rows-here s i n e h q = rw (lines_step s i e (next_line s e) h q refl)

pub rows-past : (s : List ℕ) (i n e k : ℕ) → i < length s → e ≡ line_end s i → row_after n (suc k) (lines (drop i s)) ≡ past (read_line n (slice i e s)) (row_after (n + 1) k (lines (drop (next_line s e) s)))
unfolding row_after
rows-past s i n e k h q = rw (lines_step s i e (next_line s e) h q refl)

-- ---- the sizes

pub sizes_exactly : (text : List ℕ) (room : ℕ) → (sizes_ok text room ≡ true) ↔ ((length text ≤ log_bytes) × (positions ≤ room))
unfolding sizes_ok
sizes_exactly text room = (
  (λ f. (leb-true (length text) log_bytes (and_left (leb (length text) log_bytes) (leb positions room) f), leb-true positions room (and_right (leb (length text) log_bytes) (leb positions room) f))),
  (λ w. and_both (le-leb (length text) log_bytes w.0) (le-leb positions room w.1)),
)

pub sizes_room : (text : List ℕ) (room : ℕ) → sizes_ok text room ≡ true → positions ≤ room
sizes_room text room f = ((sizes_exactly text room).0 f).1

-- ---- reading by number

pub row_unfit : (text : List ℕ) (r room : ℕ) → sizes_ok text room ≡ false → read_row text r room ≡ fault outside_limits 0
unfolding read_row
row_unfit text r room f = rw (f, and-false (ltb 0 r))

pub row_zero : (text : List ℕ) (r room : ℕ) → r ≡ 0 → read_row text r room ≡ fault outside_limits 0
unfolding read_row
row_zero text r room z = rw z

pub row_start_lem : (text : List ℕ) (r room : ℕ) → 0 < r → sizes_ok text room ≡ true → read_row text r room ≡ from_line 1 (r - 1) (lines (drop 0 text))
unfolding read_row from_line
row_start_lem text r room h f = rw (lt-ltb 0 r h, f)

-- row r is looked for, and these are the lines from line n on
pub record Going (text : List ℕ) (r room : ℕ) (ls : List (List ℕ)) (n : ℕ) : Type 0 where
  pub low : 2 ≤ n
  pub high : n ≤ log_rows + 2
  pub ahead : n ≤ r + 1
  pub reads : read_row text r room ≡ row_after n (r + 1 - n) ls

-- the cursor at the start
pub start_stands : (text : List ℕ) (c : Cursor) (b : Option Cursor) → c ≡ start → begun text (standing text c) c.line ≡ b → begun text 0 1 ≡ b
start_stands text c b e q = let z : standing text start ≡ 0 = omega arith in rw z at (rw e at q)

pub going_start : (text : List ℕ) (r room i n : ℕ) (ls : List (List ℕ)) → 0 < r → sizes_ok text room ≡ true → begun text 0 1 ≡ Some (cursor_of i n) → ls ≡ lines (drop i text) → Going text r room ls n
going_start text r room i n ls h f b e =
    let p = begun-passed text 0 1 i n (omega arith) b in
    let m : n ≡ 2 = p.line_is in
    let k : r - 1 ≡ r + 1 - n = omega arith in
    rw e
    (record {
      low = p.low;
      high = omega arith;
      ahead = omega arith;
      reads = row_start_lem text r room h f ∙ ap (λ (j : ℕ). from_line 1 j (lines (drop 0 text))) k ∙ p.reads (r + 1 - n);
    })

module _ (text : List ℕ) (r room : ℕ) (ls : List (List ℕ)) (n : ℕ) (g : Going text r room ls n) where
  pub going_end : ls ≡ [] → read_row text r room ≡ end
  unfolding row_after
  going_end e = g.reads ∙ rw e

  module _ (l : List ℕ) (rest : List (List ℕ)) (e : ls ≡ l ∷ rest) where
    -- row r's own line
    pub going_here : n - 1 ≡ r → read_row text r room ≡ read_line n l
    unfolding row_after
    going_here z = let k : r + 1 - n ≡ 0 = omega (arith, g.low) in g.reads ∙ rw (e, k)

    -- a line before row r
    going_past : (n - 1 ≡ r → ⊥) → read_row text r room ≡ past (read_line n l) (row_after (n + 1) (r + 1 - (n + 1)) rest)
    unfolding row_after
    going_past z = let k : r + 1 - n ≡ suc (r + 1 - (n + 1)) = omega (arith, g.low, g.ahead) in g.reads ∙ rw (e, k)

    pub going_fault : (a b : ℕ) → read_line n l ≡ fault a b → read_row text r room ≡ fault a b
    going_fault a b x = ⊎_elim (λ u. going_past (λ z. omega arith) ∙ rw x) (λ u. going_here (omega (arith, g.low, g.ahead)) ∙ x) (lt_or_le n (r + 1))

    pub going_more : (s : ℕ) (t : List ℕ) → read_line n l ≡ row s t → (n - 1 ≡ r → ⊥) → Going text r room rest (n + 1)
    going_more s t x z =
        let w = line_row n l s t x in
        record {
          low = omega (arith, g.low);
          high = omega (arith, w.line_low);
          ahead = omega (arith, g.ahead);
          reads = going_past z ∙ ap (λ (y : RowReading). past y (row_after (n + 1) (r + 1 - (n + 1)) rest)) x;
        }

-- ---- reading at a cursor

module _ (text : List ℕ) (c : Cursor) (room : ℕ) where
  pub next_unfit : sizes_ok text room ≡ false → read_next text c room ≡ fault outside_limits 0
  unfolding read_next
  next_unfit f = rw f

  module _ (f : sizes_ok text room ≡ true) where
    next_fit : read_next text c room ≡ from_line c.line 0 (lines (drop (standing text c) text))
    unfolding read_next
    next_fit = rw f

    pub next_differs : begun text (standing text c) c.line ≡ None → read_next text c room ≡ fault line_form 1
    next_differs b = next_fit ∙ begun_differs text (standing text c) c.line 0 b

    module _ (i n : ℕ) (p : Passed text (standing text c) c.line i n) where
      pub next_end : length text ≤ i → read_next text c room ≡ end
      next_end h = next_fit ∙ p.reads 0 ∙ rows_end text i n 0 h

      pub next_here : (e : ℕ) → i < length text → e ≡ line_end text i → read_next text c room ≡ read_line n (slice i e text)
      next_here e h q = next_fit ∙ p.reads 0 ∙ rows-here text i n e h q

      pub next_reads : (l : List ℕ) → i < length text → l ≡ take (line_length (drop i text)) (drop i text) → read_next text c room ≡ read_line n l
      next_reads l h e = next_here (line_end text i) h refl ∙ ap (read_line n) (sym (line_is_slice text i l e))

-- ---- the cursor

pub cursor_fault : (text : List ℕ) (c : Cursor) (x : RowReading) (n p : ℕ) → x ≡ fault n p → c ≡ cursor_after text c x
cursor_fault text c x n p e = rw e

pub cursor_end : (text : List ℕ) (c : Cursor) (x : RowReading) → x ≡ end → c ≡ cursor_after text c x
cursor_end text c x e = rw e

pub cursor_goes : (text : List ℕ) (c : Cursor) (i n s : ℕ) (t : List ℕ) → Passed text (standing text c) c.line i n → (x : RowReading) → x ≡ row s t
    → (rest : List ℕ) → rest ≡ drop (line_length (drop i text) + 2) (drop i text) → cursor_of (length text - length rest) (n + 1) ≡ cursor_after text c x
unfolding row_start
cursor_goes text c i n s t p x r rest f = rw (r, f, rest_starts text i p.inside, p.line_is, p.start_is)
