-- Laws of a log's rows. Row r is given only if all before it were, and only within the limits; past a row that isn't given there is
-- none (`later_same`). So the rows from row r on are found by asking for one after the other, at most as many as a log may have, and
-- what ends them is what is said of the whole log. Assumes nothing.
use Prim.Native.Nat.{ℕ, zero, suc, ◌+◌, ◌-◌, ◌*◌, ◌≤◌, ◌<◌}
use mathlib.Core.Path.{◌≡◌, refl, sym, ap, subst, ◌∙◌}
use Rattle.std.specs.Prelude.{◌↔◌}
use mathlib.Core.Bool.{true}
use mathlib.Core.List.{List, [], ◌∷◌}
use native.Mathlib.Omega.{arith}
use lib.ListN.{length}
use Rattle.std.specs.Prelude.{All}
use Rattle.std.proofs.lemmas.List.Elements.{All-cons}
use Rattle.obligations.specs.Limits.{positions}
use Rattle.obligations.proofs.ListLaws.{member-at}
use Rattle.obligations.proofs.BoolLaws.{false-not-true}
use Rattle.net.specs.Refusals.{Says}
use Rattle.logfile.specs.Limits.{log_rows, most_sessions}
use Rattle.logfile.specs.LogFile.{RowReading, row, end, fault, read_row, reading_says}
use Rattle.logfile.proofs.Theorems.{row-is_trace, later_same}
use Rattle.search.specs.Trace.{TraceWithRoom}
use Rattle.wholelog.specs.Rows.{LoggedRow, logged, RowsFrom, no_more, row_first, AreRows}
use Rattle.wholelog.specs.Computed.{log_says, before_others, found_rows, rows_of}

-- ---- a row within the limits

pub record RowWithin (w : LoggedRow) : Type 0 where
  pub some_sessions : 1 ≤ w.sessions
  pub few_sessions : w.sessions ≤ most_sessions
  pub with_room : TraceWithRoom w.trace (3 * positions)

row-within : (log : List ℕ) (r s : ℕ) (t : List ℕ) → read_row log r positions ≡ row s t → RowWithin (logged s t)
row-within log r s t e =
    let g = row-is_trace log r positions s t e in
    record {
      some_sessions = g.some_sessions;
      few_sessions = g.few_sessions;
      with_room = record { few_positions = g.few_entries; activities_only = λ i l. g.activities_only _ (member-at t i 0 l); three_words_each = omega (arith, g.few_entries) };
    }

-- and so with any buffer that has room for every trace
pub more_room : (t : List ℕ) (room : ℕ) → TraceWithRoom t (3 * positions) → 3 * positions ≤ room → TraceWithRoom t room
more_room t room w h = record { few_positions = w.few_positions; activities_only = w.activities_only; three_words_each = omega (arith, w.few_positions, h) }

-- what says the value 0 is no row, which says 1
says_no_row : (x : RowReading) → (reading_says x).says.value ≡ 0 → (s : ℕ) (t : List ℕ) → x ≡ row s t → ⊥
says_no_row x v s t e = omega (arith, v, ap (λ (y : RowReading). (reading_says y).says.value) e)

-- ---- the rows from row r on

module _ (log : List ℕ) where
  abbrev IsNoRow : ℕ → Type 0
  IsNoRow r = (s : ℕ) (t : List ℕ) → read_row log r positions ≡ row s t → ⊥

  pub rows-first : (n r s : ℕ) (t : List ℕ) → read_row log r positions ≡ row s t → found_rows log (suc n) r ≡ logged s t ∷ found_rows log n (suc r)
  unfolding found_rows
  rows-first n r s t e = ap (λ (x : RowReading). before_others x (found_rows log n (suc r))) e

  pub rows-none : (n r : ℕ) → IsNoRow r → found_rows log n r ≡ []
  unfolding found_rows
  rows-none zero r h = refl
  rows-none (suc n) r h = go (read_row log r positions) h
    where
      go : (x : RowReading) → ((s : ℕ) (t : List ℕ) → x ≡ row s t → ⊥) → before_others x (found_rows log n (suc r)) ≡ []
      go (row s t) f = absurd (f s t refl)
      go end f = refl
      go (fault m p) f = refl

  -- a row, or none
  row_or : {A : Type 0} (r : ℕ) → ((s : ℕ) (t : List ℕ) → read_row log r positions ≡ row s t → A) → (IsNoRow r → A) → A
  row_or {A} r f g = go (read_row log r positions) refl
    where
      go : (x : RowReading) → read_row log r positions ≡ x → A
      go (row s t) e = f s t e
      go end e = g (says_no_row _ (ap (λ (y : RowReading). (reading_says y).says.value) e))
      go (fault m p) e = g (says_no_row _ (ap (λ (y : RowReading). (reading_says y).says.value) e))

  none_asked : (r : ℕ) → found_rows log zero r ≡ []
  unfolding found_rows
  none_asked r = refl

  pub all_within : (n r : ℕ) → All RowWithin (found_rows log n r)
  all_within zero r = λ k d lt. absurd (omega (arith, ap length (none_asked r)))
  all_within (suc n) r =
      row_or r
      (λ s t e. subst (All RowWithin) (sym (rows-first n r s t e)) (All-cons RowWithin (logged s t) (found_rows log n (suc r)) (row-within log r s t e) (all_within n (suc r))))
      (λ h. subst (All RowWithin) (sym (rows-none (suc n) r h)) (λ k d lt. absurd (omega arith)))

  pub rows-few : (n r : ℕ) → length (found_rows log n r) ≤ n
  unfolding found_rows
  rows-few zero r = omega arith
  rows-few (suc n) r =
      row_or r
      (λ s t e. omega (arith, ap length (rows-first n r s t e), rows-few n (suc r)))
      (λ h. omega (arith, ap length (rows-none (suc n) r h)))

  -- ---- the rows of a log that reads whole

  -- what ends the rows is said of every row after them, and so of the whole log
  last_said : (r : ℕ) → 1 ≤ r → r ≤ log_rows + 1 → IsNoRow r → log_says log ≡ (reading_says (read_row log r positions)).says
  unfolding log_says
  last_said r l h f = ap (λ (x : RowReading). (reading_says x).says) (later_same log r (log_rows + 1) positions l h f)

  -- no row is the one after the last that a log may have
  pub none_past : (r : ℕ) → log_rows < r → IsNoRow r
  none_past r h s t e = omega (arith, (row-is_trace log r positions s t e).few_rows)

  end_where-ok : (x : RowReading) → ((s : ℕ) (t : List ℕ) → x ≡ row s t → ⊥) → (reading_says x).says.ok ≡ true → x ≡ end
  end_where-ok (row s t) f e = absurd (f s t refl)
  end_where-ok end f e = refl
  end_where-ok (fault m p) f e = absurd (false-not-true refl e)

  end_where-read : (r : ℕ) → 1 ≤ r → r ≤ log_rows + 1 → (log_says log).ok ≡ true → IsNoRow r → read_row log r positions ≡ end
  end_where-read r l h o f = end_where-ok (read_row log r positions) f (ap (λ (y : Says). y.ok) (sym (last_said r l h f)) ∙ o)

  found_are : (n r : ℕ) → 1 ≤ r → r + n ≡ log_rows + 1 → (log_says log).ok ≡ true → RowsFrom log r (found_rows log n r)
  found_are zero r l e o =
      let none = none_past r (omega arith) in
      subst (RowsFrom log r) (sym (rows-none zero r none)) (no_more (end_where-read r l (omega arith) o none))
  found_are (suc n) r l e o =
      row_or r
      (λ s t q. subst (RowsFrom log r) (sym (rows-first n r s t q)) (row_first s t q (found_are n (suc r) (omega arith) (omega arith) o)))
      (λ f. subst (RowsFrom log r) (sym (rows-none (suc n) r f)) (no_more (end_where-read r l (omega arith) o f)))

  end_no_row : (r : ℕ) → read_row log r positions ≡ end → IsNoRow r
  end_no_row r e = says_no_row _ (ap (λ (y : RowReading). (reading_says y).says.value) e)

  are_found : (r : ℕ) (ws : List LoggedRow) → 1 ≤ r → r ≤ log_rows + 1 → RowsFrom log r ws → (ws ≡ found_rows log (log_rows + 1 - r) r) × ((log_says log).ok ≡ true)
  are_found r [] l h (no_more e) =
      let f = end_no_row r e in
      (sym (rows-none (log_rows + 1 - r) r f), ap (λ (y : Says). y.ok) (last_said r l h f ∙ ap (λ (x : RowReading). (reading_says x).says) e))
  are_found r (w ∷ ws) l h (row_first s t e more) =
      let few = (row-is_trace log r positions s t e).few_rows in
      let n : log_rows + 1 - r ≡ suc (log_rows + 1 - suc r) = omega (arith, few) in
      let next = are_found (suc r) ws (omega arith) (omega (arith, few)) more in
      (sym (ap (λ (k : ℕ). found_rows log k r) n ∙ rows-first (log_rows + 1 - suc r) r s t e ∙ ap (λ (vs : List LoggedRow). logged s t ∷ vs) (sym next.0)), next.1)

  pub rows_exactly : (ws : List LoggedRow) → AreRows log ws ↔ (((log_says log).ok ≡ true) × (ws ≡ rows_of log))
  unfolding rows_of
  rows_exactly ws = (
    (λ a. let w = are_found 1 ws (omega arith) (omega arith) a in (w.1, w.0)),
    (λ p. subst (AreRows log) (sym p.1) (found_are log_rows 1 (omega arith) (omega arith) p.0)),
  )

-- the rows of a log are within the limits, and no more than a log may have
pub found_within : (log : List ℕ) → All RowWithin (rows_of log) × (length (rows_of log) ≤ log_rows)
unfolding rows_of
found_within log = (all_within log log_rows 1, rows-few log log_rows 1)
