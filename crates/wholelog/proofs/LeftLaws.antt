-- Laws of what is left of a log that is gone through with a cursor: what is read at the cursor is the next row (`CursorReadsNext`), so
-- the row given is the first that was left, and nothing is given where none is. Assumes nothing.
use Prim.Native.Nat.{ℕ, zero, suc, ◌+◌, ◌-◌, ◌*◌, ◌≤◌}
use mathlib.Core.Path.{◌≡◌, refl, sym, ap, subst, ◌∙◌}
use mathlib.Core.Bool.{true}
use mathlib.Core.Logic.{⊎_elim}
use mathlib.Core.List.{List, [], ◌∷◌, ◌++◌}
use native.Mathlib.Omega.{arith}
use lib.ListN.{length, take, drop}
use lib.Seq.{take-append_seam}
use Rattle.std.specs.Prelude.{All, Option, Some, None, Result, Ok, Err}
use Rattle.std.proofs.lemmas.List.Elements.{All-head}
use Rattle.obligations.specs.Limits.{positions}
use Rattle.obligations.proofs.BoolLaws.{false-not-true}
use Rattle.obligations.proofs.SetLaws.{lt_or_le}
use Rattle.net.specs.Refusals.{accepted, refused, refusal_number}
use Rattle.net.specs.declared.refusal.Refused.{Refused}
use Rattle.logfile.specs.Limits.{log_rows}
use Rattle.logfile.specs.LogFile.{RowReading, row, end, fault, RowSays, row_means, reading_says, reading_leaves, read_row}
use Rattle.logfile.specs.Cursor.{read_next, cursor_after, NextRead, Reached, at_start, one_more}
use Rattle.logfile.specs.declared.Cursor.{Cursor}
use Rattle.logfile.specs.declared.NextRow.{NextRow}
use Rattle.logfile.specs.declared.Row.{Row}
use Rattle.logfile.proofs.Theorems.{row-is_trace, cursor_reads-next}
use Rattle.search.specs.Trace.{TraceWithRoom}
use Rattle.wholelog.specs.Rows.{logged}
use Rattle.wholelog.specs.Computed.{log_says, found_rows}
use Rattle.wholelog.specs.declared.rows.Rows.{Rows}
use Rattle.wholelog.specs.Left.{rows_left, last_trace, GivenFirst}
use Rattle.wholelog.specs.Passed.{cursor_past, is_row, AllGiven}
use Rattle.wholelog.proofs.RowsLaws.{RowWithin, rows-first, rows-none, none_past, all_within}

-- an answer is a row exactly if a row was to be read
given_row : (r : Row) (x : RowReading) → row_means (Ok (Some r)) ≡ reading_says x → (t : List ℕ) × (x ≡ row r.sessions t) × (length t ≡ r.length)
given_row r (row a t) e = (t, ap (λ (k : ℕ). row k t) (sym (ap (λ (m : RowSays). m.sessions) e)), sym (ap (λ (m : RowSays). m.entries) e))
given_row r end e = let z : ◌≡◌ {A = ℕ} 1 0 = ap (λ (m : RowSays). m.says.value) e in absurd (omega arith)
given_row r (fault a b) e = let z : ◌≡◌ {A = ℕ} 1 0 = ap (λ (m : RowSays). m.says.value) e in absurd (omega arith)

no_row : (a : Result (Option Row) Refused) (x : RowReading) → row_means a ≡ reading_says x → ((r : Row) → a ≡ Ok (Some r) → ⊥) → (s : ℕ) (t : List ℕ) → x ≡ row s t → ⊥
no_row (Ok (Some r)) x e h s t q = h r refl
no_row (Ok None) x e h s t q = let z : ◌≡◌ {A = ℕ} 0 1 = ap (λ (m : RowSays). m.says.value) (e ∙ ap reading_says q) in omega arith
no_row (Err f) x e h s t q = let z : ◌≡◌ {A = ℕ} 0 1 = ap (λ (m : RowSays). m.says.value) (e ∙ ap reading_says q) in omega arith

-- the front of a buffer with a trace at its front
front_is : (t buf out : List ℕ) (n : ℕ) → out ≡ t ++ drop (length t) buf → length t ≡ n → take n out ≡ t
front_is t buf out n e q = rw (e, sym q) (take-append_seam t (drop (length t) buf))

-- so many rows were passed, one after the other
passed_reached : (log : List ℕ) (k : ℕ) → AllGiven log k → Reached log positions k (cursor_past log k)
passed_reached log zero h = at_start
passed_reached log (suc k) h = go (read_next log (cursor_past log k) positions) refl (h k (omega arith)) (passed_reached log k (λ j l. h j (omega arith)))
  where
    go : (x : RowReading) → read_next log (cursor_past log k) positions ≡ x → is_row x ≡ true → Reached log positions k (cursor_past log k)
        → Reached log positions (suc k) (cursor_after log (cursor_past log k) (read_next log (cursor_past log k) positions))
    go (row s t) e q before = rw e (one_more s t before e)
    go end e q before = absurd (false-not-true refl q)
    go (fault n p) e q before = absurd (false-not-true refl q)

-- a row that was read, with k rows before it
pub record GivenRow (log : List ℕ) (k : ℕ) (given : Row) (trace : List ℕ) (after : Cursor) : Type 0 where
  pub first : found_rows log (log_rows - k) (suc k) ≡ logged given.sessions (take given.length trace) ∷ found_rows log (log_rows - (k + 1)) (suc (k + 1))
  pub all_given : AllGiven log (suc k)
  pub stands : after ≡ cursor_past log (suc k)
  pub room_left : suc k ≤ log_rows
  pub short : given.length ≤ positions
  pub as_long : length (take given.length trace) ≡ given.length

module _ (log : List ℕ) (k : ℕ) (c : Cursor) (given-so_far : AllGiven log k) (stands : c ≡ cursor_past log k) (trace : List ℕ) (long : length trace ≡ positions)
    (x : NextRow) (trace' : List ℕ) (w : NextRead log c trace x trace') where
  -- what is read is row k + 1
  is_next : read_next log (cursor_past log k) positions ≡ read_row log (suc k) positions
  is_next = cursor_reads-next log positions k (cursor_past log k) (passed_reached log k given-so_far)

  reads : read_next log c (length trace) ≡ read_row log (suc k) positions
  reads = ap (read_next log c) long ∙ ap (λ (d : Cursor). read_next log d positions) stands ∙ is_next

  says : row_means x.answer ≡ reading_says (read_row log (suc k) positions)
  says = w.reads.says ∙ ap reading_says reads

  pub next-given : (given : Row) → x.answer ≡ Ok (Some given) → GivenRow log k given trace' x.cursor
  next-given given e =
      let g = given_row given (read_row log (suc k) positions) (ap row_means (sym e) ∙ says) in
      let t : List ℕ = g.0 in
      let v = row-is_trace log (suc k) positions given.sessions t g.1 in
      let front = front_is t trace trace' given.length (w.reads.leaves ∙ ap (λ (y : RowReading). reading_leaves y trace) (reads ∙ g.1)) g.2 in
      let n : log_rows - k ≡ suc (log_rows - suc k) = omega (arith, v.few_rows) in
      let e : suc k ≡ k + 1 = omega arith in
      record {
        first =
            ap (λ (m : ℕ). found_rows log m (suc k)) n
            ∙ rows-first log (log_rows - suc k) (suc k) given.sessions t g.1
            ∙ ap (λ (u : List ℕ). logged given.sessions u ∷ found_rows log (log_rows - suc k) (suc (suc k))) (sym front)
            ∙ ap (λ (m : ℕ). logged given.sessions (take given.length trace') ∷ found_rows log (log_rows - m) (suc m)) e;
        all_given = λ j l. ⊎_elim (λ m. given-so_far j m) (λ m. let i : j ≡ k = omega arith in rw i (ap is_row (is_next ∙ g.1))) (lt_or_le j k);
        stands = w.goes_on ∙ ap (cursor_after log c) (reads ∙ sym is_next) ∙ ap (λ (d : Cursor). cursor_after log d (read_next log (cursor_past log k) positions)) stands;
        room_left = v.few_rows;
        short = omega (arith, g.2, v.few_entries);
        as_long = ap length front ∙ g.2;
      }

  module _ (h : (given : Row) → x.answer ≡ Ok (Some given) → ⊥) where
    no_next : (s : ℕ) (t : List ℕ) → read_row log (suc k) positions ≡ row s t → ⊥
    no_next = no_row x.answer (read_row log (suc k) positions) says h

    pub next-none : found_rows log (log_rows - k) (suc k) ≡ []
    next-none = rows-none log (log_rows - k) (suc k) no_next

    pub none_written : trace' ≡ trace
    none_written = w.reads.leaves ∙ ap (λ (y : RowReading). reading_leaves y trace) reads ∙ stays (read_row log (suc k) positions) no_next
      where
        stays : (y : RowReading) → ((s : ℕ) (t : List ℕ) → y ≡ row s t → ⊥) → reading_leaves y trace ≡ trace
        stays (row s t) f = absurd (f s t refl)
        stays end f = refl
        stays (fault n p) f = refl

-- every row that is left is within the limits
left_within : (rows : Rows) → All RowWithin (rows_left rows)
unfolding rows_left
left_within rows = all_within rows.text.now (log_rows - rows.given) (suc rows.given)

-- so the trace of the first of them is one that a replay takes
pub given-with_room : (old new : Rows) (given : Row) → GivenFirst old new given → TraceWithRoom (last_trace new) (3 * positions)
given-with_room old new given g =
    (All-head RowWithin (logged given.sessions (last_trace new)) (rows_left new) (subst (All RowWithin) g.first (left_within old))).with_room

-- ---- a whole log

-- what is said of a whole log is accepted with 0 if anything but a refusal was read, as the row after the last is never one
module _ (log : List ℕ) where
  pub log_ok : (there : Option Row) → row_means (Ok there) ≡ reading_says (read_row log (log_rows + 1) positions) → accepted 0 ≡ log_says log
  unfolding log_says
  log_ok None e = ap (λ (y : RowSays). y.says) e
  log_ok (Some r) e =
      let g = given_row r (read_row log (log_rows + 1) positions) e in
      absurd (none_past log (log_rows + 1) (omega arith) r.sessions g.0 g.1)

  pub log_err : (r : Refused) → row_means (Err r) ≡ reading_says (read_row log (log_rows + 1) positions) → refused (refusal_number r.refusal) r.place ≡ log_says log
  unfolding log_says
  log_err r e = ap (λ (y : RowSays). y.says) e
