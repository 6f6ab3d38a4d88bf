-- Reading a row answers as its refusals are listed (specs/Refusals.antt). Line by line each test fails exactly where its sentence
-- holds: the sizes on line 0, the header's bytes on line 1, then the commas, the numbers and the limits of each line up to row
-- r's. A line of which none holds is a row, and reading goes on; of the lines after row r's none holds. Assumes nothing.
use Prim.Native.Nat.{ℕ, zero, suc, ◌+◌, ◌-◌, ◌≤◌, ◌<◌}
use mathlib.Core.Path.{◌≡◌, refl, sym, ap, subst, ◌∙◌}
use mathlib.Core.Logic.{◌↔◌, inl, inr, ⊎_elim}
use mathlib.Core.Bool.{Bool, true, false, ◌&&◌, cond}
use mathlib.Core.List.{List, [], ◌∷◌}
use native.Mathlib.Numerals.{add-one}
use native.Mathlib.Omega.{arith}
use borrow.Author.Tests.{le-leb, leb-true, lt-ltb, ltb-true}
use lib.Dec.{leb, ltb}
use lib.ListN.{length, drop, length-map}
use Rattle.obligations.specs.Limits.{positions}
use Rattle.obligations.proofs.BoolLaws.{true_or_false, false-not-true, and_left, and_right, and_both}
use Rattle.obligations.proofs.SetLaws.{lt_or_le}
use Rattle.text.specs.Bytes.{same_bytes}
use Rattle.text.specs.Lines.{lines}
use Rattle.text.specs.Fields.{comma, split}
use Rattle.text.specs.Decimal.{value, all_numbers, values, print_number}
use Rattle.text.specs.Members.{highest}
use Rattle.text.proofs.ByteLaws.{same_exactly}
use Rattle.text.proofs.FieldLaws.{occurrences-split}
use Rattle.text.proofs.LineLaws.{line-next, none_next}
use Rattle.net.specs.Refusals.{outside_limits, line_form, number_form}
use Rattle.net.specs.Sentences.{Sentence, whole, NoneHolds, order_on_line, AsListedByLine}
use Rattle.net.proofs.SentenceLaws.{ascends, Told, told_end, whole_link, ToldFrom, passed_all, line_passes, line_stops, line_told, told_by_line, refused-same, accepted-not-refused, holds-whole}
use Rattle.logfile.specs.Limits.{log_bytes, log_rows}
use Rattle.logfile.specs.LogFile.{RowReading, row, end, fault, is_sessions, entries, read_fields, read_parts, read_line, past, row_after, log_header, after_header, sizes_ok, read_row, RowSays, row_refused, reading_says}
use Rattle.logfile.specs.Refusals.{LineIs, trace_text, row_text, LogOutsideLimits, CommasDiffer, NumbersDiffer, RowExceeds, UpToRow, line_refusals, row_refusals}
use Rattle.logfile.proofs.AnswerLaws.{line_row, line_printed, line-sessions, line-entries}
use Rattle.logfile.proofs.FileLaws.{sizes_exactly}
use Rattle.logfile.proofs.CursorLaws.{row_on_line, end_no_line}
use Rattle.logfile.proofs.PrintLaws.{entries_printed, trace_exactly, sessions_exactly, row_fields_lem, row_printed, row_once}

-- ---- a line's chain

-- a line is one text
line_same : {text : List ℕ} {n : ℕ} {l m : List ℕ} → LineIs text n l → LineIs text n m → l ≡ m
line_same a b = sym a.there ∙ b.there

-- a refusal on line n
abbrev fault_on : ℕ → ℕ → ℕ → RowReading
fault_on n number place = fault number n

-- line n, which is l and not past row r's
module _ (text : List ℕ) (r n : ℕ) (l : List ℕ) (at : LineIs text n l) (h : n ≤ r + 1) where
  line_link : (go : RowReading) (number : ℕ) (Bad : List ℕ → Type 0) (ss : List Sentence) (test : Bool) (rest : RowReading)
      → (test ≡ true → Bad l → ⊥) → (test ≡ false → Bad l) → (test ≡ true → Told (fault_on n) ss go rest)
      → Told (fault_on n) (whole number (UpToRow text r n Bad) ∷ ss) go (cond test rest (fault number n))
  line_link go number Bad ss test rest none some next =
      whole_link (fault_on n) go number (UpToRow text r n Bad) ss test rest
      (λ e b. none e (subst Bad (line_same b.1 at) b.3)) (λ e. (l, at, omega arith, some e)) next

  -- 13 where it has not two fields
  line_differs : (go : RowReading) → (length (split comma l) ≡ 2 → ⊥) → Told (fault_on n) (line_refusals text r n) go (fault line_form n)
  line_differs go d =
      line_link go line_form CommasDiffer _ false go (λ e. absurd (false-not-true refl e)) (λ e q. d ((occurrences-split comma l 1).0 q)) (λ e. absurd (false-not-true refl e))

  module _ (s t : List ℕ) (e : split comma l ≡ s ∷ t ∷ []) where
    numbers_none : is_sessions s && all_numbers highest (entries t) ≡ true → NumbersDiffer l → ⊥
    numbers_none q w =
        let f : w.0 ≡ s = cc w.2 in
        let g : w.1 ≡ t = cc w.2 in
        ⊎_elim
        (λ d. d (rw f ((sessions_exactly s).0 (and_left (is_sessions s) (all_numbers highest (entries t)) q))))
        (λ d. d (rw g ((trace_exactly t).0 (and_right (is_sessions s) (all_numbers highest (entries t)) q))))
        w.3

    numbers_some : is_sessions s && all_numbers highest (entries t) ≡ false → NumbersDiffer l
    numbers_some q = (
      s,
      t,
      e,
      ⊎_elim
          (λ a. inr (λ w. false-not-true q (and_both a ((trace_exactly t).1 w))))
          (λ a. inl (λ w. false-not-true a ((sessions_exactly s).1 w)))
          (true_or_false (is_sessions s)),
    )

    exceeds_none : leb (length (entries t)) positions && leb n (log_rows + 1) ≡ true → RowExceeds n l → ⊥
    exceeds_none q (inl (k, ks, u, m)) =
        let g : t ≡ trace_text ks = cc (ap (split comma) u ∙ row_fields_lem k ks) in
        omega (arith, leb-true (length (entries t)) positions (and_left (leb (length (entries t)) positions) (leb n (log_rows + 1)) q), ap length (ap entries g ∙ entries_printed ks), length-map ks print_number)
    exceeds_none q (inr m) = omega (arith, leb-true n (log_rows + 1) (and_right (leb (length (entries t)) positions) (leb n (log_rows + 1)) q))

    exceeds_some : is_sessions s && all_numbers highest (entries t) ≡ true → leb (length (entries t)) positions && leb n (log_rows + 1) ≡ false → RowExceeds n l
    exceeds_some p q =
        ⊎_elim
        (λ m. inl (value s, values (entries t), row_printed l s t e (and_left (is_sessions s) (all_numbers highest (entries t)) p) (and_right (is_sessions s) (all_numbers highest (entries t)) p), omega (arith, length-map (entries t) value)))
        (λ m. ⊎_elim inr (λ u. absurd (false-not-true q (and_both (le-leb (length (entries t)) positions m) (le-leb n (log_rows + 1) u)))) (lt_or_le (log_rows + 1) n))
        (lt_or_le positions (length (entries t)))

    fields_told : Told (fault_on n) (line_refusals text r n) (row (value s) (values (entries t))) (read_fields n s t)
    unfolding read_fields
    fields_told =
        let go = row (value s) (values (entries t)) in
        line_link go line_form CommasDiffer _ true _ (λ a d. d ((occurrences-split comma l 1).1 (ap length e))) (λ a. absurd (false-not-true a refl))
        (λ a. line_link go number_form NumbersDiffer _ (is_sessions s && all_numbers highest (entries t)) _ numbers_none numbers_some
        (λ p. line_link go outside_limits (RowExceeds n) [] (leb (length (entries t)) positions && leb n (log_rows + 1)) _ exceeds_none (exceeds_some p)
        (λ q. told_end (fault_on n) go)))

  -- a line of which no sentence holds is a row
  line_chain : (s : ℕ) × (t : List ℕ) × Told (fault_on n) (line_refusals text r n) (row s t) (read_line n l)
  unfolding read_line
  line_chain = go (split comma l) refl
    where
      go : (fs : List (List ℕ)) → split comma l ≡ fs → (s : ℕ) × (t : List ℕ) × Told (fault_on n) (line_refusals text r n) (row s t) (read_parts n fs)
      go [] e = (0, [], line_differs (row 0 []) (λ q. omega (arith, ap length e)))
      go (f ∷ []) e = (0, [], line_differs (row 0 []) (λ q. omega (arith, ap length e)))
      go (f ∷ g ∷ []) e = (value f, values (entries g), fields_told f g e)
      go (f ∷ g ∷ x ∷ fs) e = (0, [], line_differs (row 0 []) (λ q. omega (arith, ap length e)))

-- ---- the lines of a file

-- the line with m others before it, and the lines after it
rest_line : (text : List ℕ) (m : ℕ) (l : List ℕ) (ls : List (List ℕ)) → drop m (lines text) ≡ l ∷ ls → LineIs text (suc m) l × (drop (suc m) (lines text) ≡ ls)
rest_line text m l ls d =
    let w = line-next text m l ls d in (record { low = omega arith; high = w.0; there = w.1 }, w.2)

rest_none : (text : List ℕ) (m n : ℕ) → drop m (lines text) ≡ [] → m < n → (l : List ℕ) → LineIs text n l → ⊥
rest_none text m n d h l at = none_next text m n d h at.high

same_answer : (n m p q : ℕ) → row_refused n p ≡ row_refused m q → (n ≡ m) × (p ≡ q)
same_answer n m p q e = refused-same n m p q (ap (λ (x : RowSays). x.says) e)

row-answers : (s : ℕ) (t : List ℕ) (n p : ℕ) → reading_says (row s t) ≡ row_refused n p → ⊥
row-answers s t n p e = accepted-not-refused 1 n p (ap (λ (x : RowSays). x.says) e)

end-answers : (n p : ℕ) → reading_says end ≡ row_refused n p → ⊥
end-answers n p e = accepted-not-refused 0 n p (ap (λ (x : RowSays). x.says) e)

module _ (text : List ℕ) (r room : ℕ) where
  abbrev refusal : ℕ → ℕ → RowSays
  refusal n p = row_refused n p

  abbrev sentences : ℕ → List Sentence
  sentences = row_refusals text r room

  -- an answer to the lines from `line` on, which where none of their sentences holds is no refusal
  abbrev Answer : ℕ → RowSays → Type 0
  Answer line said = (value : RowSays) × ((n p : ℕ) → value ≡ refusal n p → ⊥) × ToldFrom refusal sentences value line said

  -- where a line is past row r's, or isn't there, none holds
  line_none : (n : ℕ) → ((l : List ℕ) → LineIs text n l → n ≤ r + 1 → ⊥) → NoneHolds (line_refusals text r n)
  line_none n f number place =
      ⊎_elim (λ h. out h.1.bad) (⊎_elim (λ h. out h.1.bad) (⊎_elim (λ h. out h.1.bad) (λ h. h)))
    where
      out : {Bad : List ℕ → Type 0} → UpToRow text r n Bad → ⊥
      out b = f b.0 b.1 b.2

  none_from : (n : ℕ) → 2 ≤ n → ((m : ℕ) (l : List ℕ) → n ≤ m → LineIs text m l → m ≤ r + 1 → ⊥) → (m : ℕ) → n ≤ m → NoneHolds (sentences m)
  none_from n h f zero k = absurd (omega arith)
  none_from n h f (suc zero) k = absurd (omega arith)
  none_from n h f (suc (suc i)) k = line_none (suc (suc i)) (λ l at u. f (suc (suc i)) l k at u)

  rows_told : (i k : ℕ) (ls : List (List ℕ)) → drop (suc i) (lines text) ≡ ls → suc (suc i) + k ≡ r + 1 → Answer (suc (suc i)) (reading_says (row_after (suc (suc i)) k ls))
  unfolding row_after
  rows_told i k [] d e = (reading_says end, end-answers, passed_all (none_from (suc (suc i)) (omega arith) (λ m l u at v. rest_none text (suc i) m d (omega arith) l at)))
  rows_told i zero (l ∷ ls) d e =
      let w = line_chain text r (suc (suc i)) l (rest_line text (suc i) l ls d).0 (omega arith) in (
        reading_says (row w.0 w.1),
        row-answers w.0 w.1,
        line_told refusal sentences _ (fault_on (suc (suc i))) (row w.0 w.1) (read_line (suc (suc i)) l) (suc (suc i)) reading_says (λ n p. refl) w.2 refl
            (λ q. passed_all (none_from (suc (suc (suc i))) (omega arith) (λ m j u at v. omega arith))),
      )
  rows_told i (suc k) (l ∷ ls) d e =
      let a = rest_line text (suc i) l ls d in
      let w = line_chain text r (suc (suc i)) l a.0 (omega arith) in
      let next = rows_told (suc i) k ls a.1 (omega arith) in (
        next.0,
        next.1,
        line_told refusal sentences next.0 (fault_on (suc (suc i))) (row w.0 w.1) (read_line (suc (suc i)) l) (suc (suc i)) (λ x. reading_says (past x (row_after (suc (suc i) + 1) k ls))) (λ n p. refl) w.2 refl
            (λ q. rw (add-one (suc (suc i))) next.2),
      )

  header_told : 1 ≤ r → Answer 1 (reading_says (after_header (r - 1) (lines text)))
  header_told h = go (lines text) refl
    where
      right : (b : Bool) (l : List ℕ) (ls : List (List ℕ)) → lines text ≡ l ∷ ls → same_bytes l log_header ≡ b → Answer 1 (reading_says (cond b (row_after 2 (r - 1) ls) (fault line_form 1)))
      right true l ls e q =
          let a = rest_line text 0 l ls e in
          let next = rows_told 0 (r - 1) ls a.1 (omega arith) in
          (next.0, next.1, line_passes refusal sentences next.0 1 _ (λ n p. ⊎_elim (λ w. w.1.bad (subst (LineIs text 1) ((same_exactly l log_header).0 q) a.0)) (λ w. w)) next.2)
      right false l ls e q =
          let a = rest_line text 0 l ls e in
          (reading_says end, end-answers, line_stops refusal sentences _ 1 line_form (inl (refl, holds-whole (λ at. false-not-true q ((same_exactly l log_header).1 (line_same a.0 at))))))

      go : (ls : List (List ℕ)) → lines text ≡ ls → Answer 1 (reading_says (after_header (r - 1) ls))
      go [] e = (reading_says end, end-answers, line_stops refusal sentences _ 1 line_form (inl (refl, holds-whole (rest_none text 0 1 e (omega arith) log_header))))
      go (l ∷ ls) e = right (same_bytes l log_header) l ls e refl

  sizes_none : ltb 0 r && sizes_ok text room ≡ true → LogOutsideLimits text r room → ⊥
  sizes_none q b =
      let h = ltb-true 0 r (and_left (ltb 0 r) (sizes_ok text room) q) in
      let w = (sizes_exactly text room).0 (and_right (ltb 0 r) (sizes_ok text room) q) in
      ⊎_elim (λ c. omega (arith, w.0)) (⊎_elim (λ c. omega arith) (λ c. omega (arith, w.1))) b

  sizes_some : ltb 0 r && sizes_ok text room ≡ false → LogOutsideLimits text r room
  sizes_some q =
      ⊎_elim inl
      (λ a. ⊎_elim (λ b. inr (inr b))
      (λ b. ⊎_elim (λ c. absurd (false-not-true q (and_both (lt-ltb 0 r c) ((sizes_exactly text room).1 (a, b))))) (λ c. inr (inl (omega arith))) (lt_or_le 0 r))
      (lt_or_le room positions))
      (lt_or_le log_bytes (length text))

  file_told : Answer 0 (reading_says (read_row text r room))
  unfolding read_row
  file_told = go (ltb 0 r && sizes_ok text room) refl
    where
      go : (b : Bool) → ltb 0 r && sizes_ok text room ≡ b → Answer 0 (reading_says (cond b (after_header (r - 1) (lines text)) (fault outside_limits 0)))
      go true q =
          let next = header_told (ltb-true 0 r (and_left (ltb 0 r) (sizes_ok text room) q)) in
          (next.0, next.1, line_passes refusal sentences next.0 0 _ (λ n p. ⊎_elim (λ b. sizes_none q b.1.bad) (λ b. b)) next.2)
      go false q = (reading_says end, end-answers, line_stops refusal sentences _ 0 outside_limits (inl (refl, holds-whole (sizes_some q))))

  orders : (l : ℕ) → ascends order_on_line 0 (sentences l) ≡ true
  orders zero = refl
  orders (suc zero) = refl
  orders (suc (suc i)) = refl

  pub row_listed : AsListedByLine row_refused (row_refusals text r room) (reading_says (read_row text r room))
  row_listed = let w = file_told in told_by_line refusal sentences w.0 same_answer w.1 orders w.2

-- ---- what is said where none holds

module _ (text : List ℕ) (r room : ℕ) where
  abbrev None : Type 0
  None = (line : ℕ) → NoneHolds (row_refusals text r room line)

  said_none : ((n p : ℕ) → reading_says (read_row text r room) ≡ row_refused n p → ⊥) → None
  said_none = (row_listed text r room).not_refused_exactly.0

  none_said : None → (n p : ℕ) → read_row text r room ≡ fault n p → ⊥
  none_said f n p e = (row_listed text r room).not_refused_exactly.1 f n p (ap reading_says e)

  row_there : (s : ℕ) (t : List ℕ) → read_row text r room ≡ row s t → LineIs text (r + 1) (row_text s t)
  row_there s t e = let w = row_on_line text r room s t e in subst (LineIs text (r + 1)) (line_printed (line_row (r + 1) w.0 s t w.2)) w.1

  pub row_said : (k : ℕ) (ks : List ℕ) → (read_row text r room ≡ row k ks) ↔ (None × LineIs text (r + 1) (row_text k ks))
  row_said k ks = (
    (λ e. (said_none (λ n p q. row-answers k ks n p (ap reading_says (sym e) ∙ q)), row_there k ks e)),
    (λ w. back w.0 w.1 (read_row text r room) refl),
  )
    where
      back : None → LineIs text (r + 1) (row_text k ks) → (x : RowReading) → read_row text r room ≡ x → x ≡ row k ks
      back f at (row s t) e =
          let w = row_on_line text r room s t e in
          let v = line_row (r + 1) w.0 s t w.2 in
          let u = row_once k s ks t (line-sessions v).1 (line-entries v) (line_same at (row_there s t e)) in
          sym (rw (u.0, u.1))
      back f at end e = absurd (end_no_line text r room e (row_text k ks) at)
      back f at (fault n p) e = absurd (none_said f n p e)

  pub end_said : (read_row text r room ≡ end) ↔ (None × ((l : List ℕ) → LineIs text (r + 1) l → ⊥))
  end_said = (
    (λ e. (said_none (λ n p q. end-answers n p (ap reading_says (sym e) ∙ q)), end_no_line text r room e)),
    (λ w. back w.0 w.1 (read_row text r room) refl),
  )
    where
      back : None → ((l : List ℕ) → LineIs text (r + 1) l → ⊥) → (x : RowReading) → read_row text r room ≡ x → x ≡ end
      back f none (row s t) e = absurd (none (row_text s t) (row_there s t e))
      back f none end e = refl
      back f none (fault n p) e = absurd (none_said f n p e)
