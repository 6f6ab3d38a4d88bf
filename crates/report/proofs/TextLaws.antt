-- Laws of the reports' texts: their lines as the pieces of which they are put together, and their length: a row's line has at most 28
-- bytes, and so has the header; the lines of a share have at most 300. Assumes nothing.
use Prim.Native.Nat.{ℕ, suc, ◌+◌, ◌*◌, ◌≤◌}
use mathlib.Core.Path.{◌≡◌, refl, sym, ap, ◌∙◌}
use mathlib.Core.List.{List, [], ◌∷◌, ◌++◌, append_assoc, append-nil}
use native.Mathlib.Omega.{arith}
use lib.ListN.{length, length-append}
use Rattle.std.specs.Prelude.{All}
use Rattle.std.proofs.lemmas.List.Elements.{All-head, All-tail}
use Rattle.text.specs.Lines.{cr, lf, unlines}
use Rattle.text.specs.Fields.{comma}
use Rattle.text.specs.Decimal.{print_number}
use Rattle.text.proofs.DigitLaws.{number_below, number-within}
use Rattle.net.specs.declared.Net.{Net}
use Rattle.logfile.specs.Limits.{log_rows, most_sessions}
use Rattle.search.proofs.ReplayLaws.{said_within}
use Rattle.search.specs.Replay.{ReplaySays, says_found, says_none, says_spent, says_refused, outcome_means, checked_says}
use Rattle.wholelog.specs.Rows.{LoggedRow, logged}
use Rattle.wholelog.specs.Left.{rows_left, rows_given, last_trace, ReplayedFirst}
use Rattle.wholelog.specs.declared.rows.Replayed.{Replayed}
use Rattle.wholelog.specs.declared.rows.Rows.{Rows}
use Rattle.wholelog.specs.declared.sharing.Figures.{Figures}
use Rattle.wholelog.proofs.RowsLaws.{RowWithin}
use Rattle.report.specs.RowLines.{report_header, answer_word, answer_trials, report_line, rows_text, table_text}
use Rattle.report.specs.ShareLines.{of_all, sessions_fit, thousand_words, and_then, are_spent, share_word, figures_text}
use Rattle.report.specs.Report.{row_budget, refused_word, refusal_text}

-- ---- the line of a refusal

module _ (file : List ℕ) (n line : ℕ) where
  pub refusal_bytes : refusal_text file n line ≡ (refused_word ++ (comma ∷ [])) ++ (file ++ ((comma ∷ []) ++ (print_number n ++ ((comma ∷ []) ++ (print_number line ++ ((cr ∷ lf ∷ []) ++ []))))))
  unfolding refusal_text
  refusal_bytes = simp (append_assoc, append-nil)

  pub refusal_short : length (refusal_text file n line) ≤ length file + 52
  refusal_short = rw refusal_bytes (simp length-append (omega (arith, number-within n, number-within line)))

-- ---- the line of a row

module _ (r s : ℕ) (a : ReplaySays) where
  pub row_bytes : report_line r s a ≡ print_number r ++ ((comma ∷ []) ++ (print_number s ++ ((comma ∷ []) ++ (answer_word a ++ ((comma ∷ []) ++ (print_number (answer_trials a) ++ ((cr ∷ lf ∷ []) ++ [])))))))
  unfolding report_line
  row_bytes = simp (append_assoc, append-nil)

  row_width : length (report_line r s a) ≡ length (print_number r) + 1 + length (print_number s) + (2 + length (answer_word a) + length (print_number (answer_trials a)) + 2)
  row_width = rw row_bytes (simp length-append (omega arith))

  word_short : length (answer_word a) ≤ 5
  word_short = go a
    where
      go : (b : ReplaySays) → length (answer_word b) ≤ 5
      go (says_found n) = omega arith
      go (says_none n) = omega arith
      go (says_spent n) = omega arith
      go (says_refused n p) = omega arith

  row_short : r ≤ log_rows → s ≤ most_sessions → answer_trials a ≤ row_budget → length (report_line r s a) ≤ 28
  row_short h k l = omega (arith, row_width, word_short, number_below 3 r (omega arith), number_below 6 s (omega arith), number_below 6 (answer_trials a) (omega arith))

-- a replay says no more trials than its budget
pub trials_most : (net : Net) (t : List ℕ) (budget : ℕ) → answer_trials (checked_says net t budget) ≤ budget
trials_most net t budget = said_within net t budget (λ a. answer_trials a ≤ budget) (λ n h. h) (λ n h. h) (λ n h. h)

-- ---- the rows

module _ (answer : List ℕ → ReplaySays) where
  pub rows-first : (r : ℕ) (w : LoggedRow) (ws : List LoggedRow) → rows_text answer r (w ∷ ws) ≡ report_line r w.sessions (answer w.trace) ++ rows_text answer (suc r) ws
  unfolding rows_text
  rows-first r w ws = refl

  pub rows-none : (r : ℕ) → rows_text answer r [] ≡ []
  unfolding rows_text
  rows-none r = refl

  pub rows_short : ((t : List ℕ) → answer_trials (answer t) ≤ row_budget) → (r : ℕ) (ws : List LoggedRow) → All RowWithin ws → r + length ws ≤ log_rows + 1 → length (rows_text answer r ws) ≤ 28 * length ws
  rows_short most r [] h few = omega (arith, ap length (rows-none r))
  rows_short most r (w ∷ ws) h few =
      omega (
        arith,
        ap length (rows-first r w ws),
        length-append (report_line r w.sessions (answer w.trace)) (rows_text answer (suc r) ws),
        row_short r w.sessions (answer w.trace) (omega arith) (All-head RowWithin w ws h).few_sessions (most w.trace),
        rows_short most (suc r) ws (All-tail RowWithin w ws h) (omega arith),
      )

-- a row that was given and replayed: its line is the next
pub given_line : (answer : List ℕ → ReplaySays) (old new : Rows) (x : Replayed) → ReplayedFirst answer old new x
    → rows_text answer (rows_given old + 1) (rows_left old) ≡ report_line x.row x.sessions (outcome_means x.outcome) ++ rows_text answer (rows_given new + 1) (rows_left new)
given_line answer old new x g =
    let k : rows_given old + 1 ≡ x.row = sym g.numbered in
    let l : suc x.row ≡ rows_given new + 1 = omega (arith, g.numbered, g.counted) in
    ap (λ (n : ℕ). rows_text answer n (rows_left old)) k
    ∙ ap (rows_text answer x.row) g.first
    ∙ rows-first answer x.row (logged x.sessions (last_trace new)) (rows_left new)
    ∙ ap (λ (a : ReplaySays). report_line x.row x.sessions a ++ rows_text answer (suc x.row) (rows_left new)) (sym g.says)
    ∙ ap (λ (n : ℕ). report_line x.row x.sessions (outcome_means x.outcome) ++ rows_text answer n (rows_left new)) l

-- the header and the rows have at most so many bytes
pub table_short : (answer : List ℕ → ReplaySays) → ((t : List ℕ) → answer_trials (answer t) ≤ row_budget) → (ws : List LoggedRow) → All RowWithin ws → length ws ≤ log_rows → length (table_text answer ws) ≤ 28 + 28 * log_rows
unfolding table_text
table_short answer most ws h few =
    omega (arith, length-append (unlines (report_header ∷ [])) (rows_text answer 1 ws), rows_short answer most 1 ws h (omega arith), few)

-- two answers that are the same of every row's trace make the same lines
pub rows-same : (f g : List ℕ → ReplaySays) (r : ℕ) (ws : List LoggedRow) → All (λ w. f w.trace ≡ g w.trace) ws → rows_text f r ws ≡ rows_text g r ws
rows-same f g r [] h = rows-none f r ∙ sym (rows-none g r)
rows-same f g r (w ∷ ws) h =
    rows-first f r w ws
    ∙ ap (λ (a : ReplaySays). report_line r w.sessions a ++ rows_text f (suc r) ws) (All-head (λ (v : LoggedRow). f v.trace ≡ g v.trace) w ws h)
    ∙ ap (λ (rest : List ℕ). report_line r w.sessions (g w.trace) ++ rest) (rows-same f g (suc r) ws (All-tail (λ (v : LoggedRow). f v.trace ≡ g v.trace) w ws h))
    ∙ sym (rows-first g r w ws)

-- ---- the lines of a share

module _ (s : Figures) where
  pub share_bytes : figures_text s ≡ print_number s.fitting ++ (of_all ++ (print_number s.all ++ (sessions_fit ++ (print_number s.per_thousand ++ (thousand_words ++ (print_number s.remainder ++ (and_then ++ (print_number s.spent ++ ((are_spent ++ (cr ∷ lf ∷ (share_word ++ (comma ∷ [])))) ++ (print_number s.per_thousand ++ ((comma ∷ []) ++ (print_number s.remainder ++ ((comma ∷ []) ++ (print_number s.fitting ++ ((comma ∷ []) ++ (print_number s.spent ++ ((comma ∷ []) ++ (print_number s.all ++ ((cr ∷ lf ∷ []) ++ [])))))))))))))))))))
  unfolding figures_text
  share_bytes = simp (append_assoc, append-nil)

  pub share_short : length (figures_text s) ≤ 300
  share_short =
      rw share_bytes
      (simp length-append (omega (arith, number-within s.per_thousand, number-within s.remainder, number-within s.fitting, number-within s.spent, number-within s.all)))
