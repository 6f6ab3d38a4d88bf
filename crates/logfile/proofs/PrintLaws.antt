-- Laws of a row's print: sessions and a trace are read exactly from their prints, a row's print has these two fields, and it is
-- the print of no other row. Assumes nothing.
use Prim.Native.Nat.{ℕ, ◌≤◌, ◌<◌, ◌^◌}
use mathlib.Core.Path.{◌≡◌, refl, sym, ap, ap₂, ◌∙◌}
use mathlib.Core.Logic.{◌↔◌, ⊎_elim}
use mathlib.Core.Bool.{true}
use mathlib.Core.List.Memᴰ
use mathlib.Core.List.{List, [], ◌∷◌, map, Memᴰ}
use native.Mathlib.Omega.{arith}
use borrow.Author.Tests.{lt-ltb, ltb-true}
use lib.Dec.{ltb}
use Rattle.obligations.proofs.BoolLaws.{and_left, and_right}
use Rattle.text.specs.Bytes.{occurrences}
use Rattle.text.specs.Fields.{comma, space, split, join}
use Rattle.text.specs.Decimal.{value, is_number, all_numbers, values, print_number}
use Rattle.text.specs.Members.{highest}
use Rattle.text.proofs.FieldLaws.{join-split, split-join, join_free}
use Rattle.text.proofs.DecimalLaws.{number_most, values_most, print_number_lem, print-value, number_free, number_printed, fields_printed, printed_fields, numbers_free, print_once, prints_once}
use Rattle.text.proofs.DigitLaws.{number_some}
use Rattle.logfile.specs.Limits.{most_sessions}
use Rattle.logfile.specs.LogFile.{is_sessions, entries}
use Rattle.logfile.specs.Refusals.{trace_text, row_text, SessionsWritten, TraceWritten}

-- ---- a trace's print

-- a printed trace has no comma
trace_free : (ks : List ℕ) → occurrences comma (trace_text ks) ≡ 0
trace_free ks = join_free comma space (λ e. omega arith) (map print_number ks) (numbers_free comma (omega arith) ks)

pub entries_printed : (ks : List ℕ) → entries (trace_text ks) ≡ map print_number ks
entries_printed [] = refl
entries_printed (k ∷ ks) = go (trace_text (k ∷ ks)) (split-join space (print_number k) (map print_number ks) (numbers_free space (omega arith) (k ∷ ks)))
  where
    go : (t : List ℕ) → split space t ≡ print_number k ∷ map print_number ks → entries t ≡ print_number k ∷ map print_number ks
    go [] e = absurd (number_some k (cc))
    go (b ∷ t) e = e

printed_trace : (t : List ℕ) → all_numbers highest (entries t) ≡ true → t ≡ trace_text (values (entries t))
printed_trace [] q = refl
printed_trace (b ∷ t) q = sym (join-split space (b ∷ t)) ∙ ap (join space) (fields_printed highest (split space (b ∷ t)) (omega arith) q)

-- ---- the tests of the two fields

pub trace_exactly : (t : List ℕ) → (all_numbers highest (entries t) ≡ true) ↔ TraceWritten t
trace_exactly t = (
  (λ q. (values (entries t), printed_trace t q, values_most highest (entries t) q)),
  (λ w. rw (w.1, entries_printed w.0) (printed_fields highest w.0 (omega arith) w.2).0),
)

pub sessions-number : (s : List ℕ) → is_sessions s ≡ true → (is_number most_sessions s ≡ true) × (0 < value s)
unfolding is_sessions
sessions-number s q = (and_left (is_number most_sessions s) (ltb 0 (value s)) q, ltb-true 0 (value s) (and_right (is_number most_sessions s) (ltb 0 (value s)) q))

printed_sessions : (s : List ℕ) → is_sessions s ≡ true → s ≡ print_number (value s)
printed_sessions s q = number_printed most_sessions s (omega arith) (sessions-number s q).0

pub sessions_exactly : (s : List ℕ) → (is_sessions s ≡ true) ↔ SessionsWritten s
unfolding is_sessions
sessions_exactly s = (
  (λ q. (value s, printed_sessions s q, (sessions-number s q).1, number_most most_sessions s (sessions-number s q).0)),
  (λ w.
      let l : w.0 < 10 ^ 20 = omega (arith, w.3) in
      rw (w.1, print_number_lem most_sessions w.0 w.3 l, print-value w.0 l, lt-ltb 0 w.0 w.2)),
)

-- ---- a row's print

pub row_fields_lem : (k : ℕ) (ks : List ℕ) → split comma (row_text k ks) ≡ print_number k ∷ trace_text ks ∷ []
row_fields_lem k ks = split-join comma (print_number k) (trace_text ks ∷ []) (λ q m. ⊎_elim (λ e. rw e (number_free comma k (omega arith))) (λ t. ⊎_elim (λ e. rw e (trace_free ks)) (λ u. absurd (Memᴰ.not-nil u)) (Memᴰ.cases_cons t)) (Memᴰ.cases_cons m))

-- a line of sessions and entries is their print
pub row_printed : (l s t : List ℕ) → split comma l ≡ s ∷ t ∷ [] → is_sessions s ≡ true → all_numbers highest (entries t) ≡ true → l ≡ row_text (value s) (values (entries t))
row_printed l s t e p q =
    sym (join-split comma l) ∙ ap (join comma) (e ∙ ap₂ (λ (a b : List ℕ). a ∷ b ∷ []) (printed_sessions s p) (printed_trace t q))

-- and the print of no other row
pub row_once : (k n : ℕ) (ks ns : List ℕ) → n ≤ most_sessions → ((a : ℕ) → Memᴰ a ns → a ≤ highest) → row_text k ks ≡ row_text n ns → (k ≡ n) × (ks ≡ ns)
row_once k n ks ns h m e =
    let f : print_number k ∷ trace_text ks ∷ [] ≡ print_number n ∷ trace_text ns ∷ [] = sym (row_fields_lem k ks) ∙ ap (split comma) e ∙ row_fields_lem n ns in
    let t : trace_text ks ≡ trace_text ns = cc in
    (print_once k n (omega arith) (cc), prints_once ks ns (λ a t. omega (arith, m a t)) (sym (entries_printed ks) ∙ ap entries t ∙ entries_printed ns))
