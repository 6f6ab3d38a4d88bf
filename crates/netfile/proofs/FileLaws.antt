-- Laws of a file: what its first line decides. A line that is missing is decided as an empty one, since an empty line has no comma
-- and is no header. Assumes nothing.
use Prim.Native.Nat.{ℕ, suc, ◌+◌, ◌≤◌, ◌<◌}
use mathlib.Core.Path.{◌≡◌, refl, sym, ap, ◌∙◌}
use mathlib.Core.Bool.{Bool, true, false, cond}
use mathlib.Core.List.{List, [], ◌∷◌}
use mathlib.Core.Logic.{◌⊎◌, inl, inr, ⊎_elim}
use native.Mathlib.Omega.{arith}
use borrow.Author.Tests.{le-leb, lt-leb, eq-eqb, ne_eqb}
use lib.ListN.{length, take, drop, length-drop}
use Rattle.std.specs.Prelude.{Result, Ok, Err, is_ok, ⊤}
use Rattle.std.proofs.lemmas.Result.{IfErr-at_err}
use Rattle.text.specs.Bytes.{same_bytes}
use Rattle.text.specs.Fields.{onto}
use Rattle.text.specs.Lines.{starts_cr_lf, lines}
use Rattle.text.specs.Inner.{line_length}
use Rattle.text.proofs.LineLaws.{lines_cut}
use Rattle.net.specs.Refusals.{bad_ends, outside_limits, line_form, refusal_number, with_place}
use Rattle.net.specs.declared.Net.{Net}
use Rattle.net.specs.declared.refusal.Refusal.{Refusal}
use Rattle.net.specs.declared.refusal.Refused.{Refused}
use Rattle.net.specs.Fresh.{fresh_net}
use Rattle.obligations.specs.Limits.{activities}
use Rattle.netfile.specs.Limits.{net_bytes}
use Rattle.netfile.proofs.LineReadLaws.{end_is}
use Rattle.netfile.specs.Steps.{on_line, PutRow}
use Rattle.netfile.specs.NetFile.{net_header, start_word, end_word, read_end, read_set_row, row_says, read_as, refused_at, refused_with, read_rows, after_end, from_end, after_start, from_start, from_header, read_net}

-- ---- a line that was refused, and one that was not

on_line_ok : {T : Type 0} (n : ℕ) (answer : Result T Refusal) (v : T) → Ok v ≡ on_line n answer → answer ≡ Ok v
on_line_ok n (Ok w) v e = cc
on_line_ok n (Err r) v e = cc

on_line_err : {T : Type 0} (n : ℕ) (answer : Result T Refusal) (f : Refused) → Err f ≡ on_line n answer → (r : Refusal) × (answer ≡ Err r) × (f ≡ with_place r n)
on_line_err n (Ok w) f e = cc
on_line_err n (Err r) f e = (r, refl, (cc))

after_start-refused : (answer : Result ℕ Refusal) (ls : List (List ℕ)) (f : Refused) → Err f ≡ on_line 2 answer → refused_with f ≡ after_start answer ls
after_start-refused (Ok v) ls f e = cc
after_start-refused (Err r) ls f e = let q : f ≡ with_place r 2 = cc in rw q

after_end-refused : (start : ℕ) (answer : Result ℕ Refusal) (ls : List (List ℕ)) (f : Refused) → Err f ≡ on_line 3 answer → refused_with f ≡ after_end start answer ls
after_end-refused start (Ok v) ls f e = cc
after_end-refused start (Err r) ls f e = let q : f ≡ with_place r 3 = cc in rw q

-- ---- the lines before the rows

module _ (s line rest : List ℕ) (p : line ≡ take (line_length s) s) (q : rest ≡ drop (line_length s + 2) s) where
  -- the first line, or none
  line_or_none : (lines s ≡ line ∷ lines rest) ⊎ ((lines s ≡ []) × (line ≡ []))
  line_or_none = rw (p, q) (go s)
    where
      go : (t : List ℕ) → (lines t ≡ take (line_length t) t ∷ lines (drop (line_length t + 2) t)) ⊎ ((lines t ≡ []) × (take (line_length t) t ≡ []))
      go [] = inr (refl, refl)
      go (a ∷ t) = inl (lines_cut (a ∷ t) (omega arith))

  pub header_line : from_header (lines s) ≡ cond (same_bytes line net_header) (from_start (lines rest)) (refused_at line_form 1)
  unfolding from_header
  header_line = ⊎_elim (λ l. rw l) (λ l. rw (l.0, l.1)) line_or_none

  pub start_line : from_start (lines s) ≡ after_start (read_end start_word line) (lines rest)
  unfolding from_start read_end
  start_line = ⊎_elim (λ l. rw l) (λ l. rw (l.0, l.1)) line_or_none

  pub end_line : (start : ℕ) → from_end start (lines s) ≡ after_end start (read_end end_word line) (lines rest)
  unfolding from_end read_end
  end_line start = ⊎_elim (λ l. rw l) (λ l. rw (l.0, l.1)) line_or_none

  pub start_refused : (f : Refused) → Err f ≡ on_line 2 (read_end start_word line) → refused_with f ≡ from_start (lines s)
  start_refused f e = after_start-refused (read_end start_word line) (lines rest) f e ∙ sym start_line

  pub start_given : (start : ℕ) → Ok start ≡ on_line 2 (read_end start_word line) → (start < activities) × (from_start (lines s) ≡ from_end start (lines rest))
  start_given start e =
      let q = on_line_ok 2 (read_end start_word line) start e in
      ((end_is start_word line start q).is_activity, start_line ∙ ap (λ (r : Result ℕ Refusal). after_start r (lines rest)) q)

  pub end_refused : (start : ℕ) (f : Refused) → Err f ≡ on_line 3 (read_end end_word line) → refused_with f ≡ from_end start (lines s)
  end_refused start f e = after_end-refused start (read_end end_word line) (lines rest) f e ∙ sym (end_line start)

  end_given : (start end : ℕ) → Ok end ≡ on_line 3 (read_end end_word line) → from_end start (lines s) ≡ after_end start (Ok end) (lines rest)
  end_given start end e = end_line start ∙ ap (λ (r : Result ℕ Refusal). after_end start r (lines rest)) (on_line_ok 3 (read_end end_word line) end e)

  pub ends_same : (start end : ℕ) → Ok end ≡ on_line 3 (read_end end_word line) → start ≡ end → refused_at bad_ends 3 ≡ from_end start (lines s)
  ends_same start end e q = sym (end_given start end e ∙ rw (eq-eqb start end q))

  pub ends_differ : (start end : ℕ) → Ok end ≡ on_line 3 (read_end end_word line) → (start ≡ end → ⊥) → (end < activities) × (read_rows 4 (fresh_net start end) (lines rest) ≡ from_end start (lines s))
  ends_differ start end e d =
      ((end_is end_word line end (on_line_ok 3 (read_end end_word line) end e)).is_activity, sym (end_given start end e ∙ rw (ne_eqb start end d)))

  pub rest_short : length rest ≤ length s
  rest_short = rw q (omega (arith, length-drop (line_length s + 2) s))

-- there are no more lines than bytes
pub few_lines : (s : List ℕ) → length (lines s) ≤ length s
few_lines [] = omega arith
few_lines (a ∷ []) = omega arith
few_lines (a ∷ b ∷ s) = go (starts_cr_lf (a ∷ b ∷ s)) (lines (b ∷ s)) (few_lines s) (few_lines (b ∷ s))
  where
    go : (t : Bool) (ls : List (List ℕ)) → length (lines s) ≤ length s → length ls ≤ suc (length s) → length (cond t ([] ∷ lines s) (onto a ls)) ≤ suc (suc (length s))
    go true ls h k = omega arith
    go false [] h k = omega arith
    go false (l ∷ ls) h k = omega arith

-- ---- the rows

-- a row that was put, by the net that it leaves, and one that was refused
module _ (n : ℕ) (net : Net) (l : List ℕ) (ls : List (List ℕ)) (r : Result ⊤ Refusal) (net' : Net) (w : PutRow net (read_set_row l) r net') where
  pub rows_more : (v : ⊤) → Ok v ≡ on_line n r → read_rows (n + 1) net' ls ≡ read_rows n net (l ∷ ls)
  unfolding read_rows
  rows_more v e = let o : is_ok r ≡ true = ap is_ok (on_line_ok n r v e) in rw (← w.put, o, w.gives) refl

  pub rows_bad : (f : Refused) → Err f ≡ on_line n r → refused_with f ≡ read_rows n net (l ∷ ls)
  unfolding read_rows
  rows_bad f e =
      let q = on_line_err n r f e in
      let k : refusal_number q.0 ≡ (row_says net (read_set_row l)).refusal = IfErr-at_err (λ m. refusal_number m ≡ (row_says net (read_set_row l)).refusal) q.1 w.refusal in
      let o : is_ok r ≡ false = ap is_ok q.1 in
      rw (← w.put, o, q.2, k) refl

pub rows_end : (n : ℕ) (net : Net) → read_rows n net [] ≡ read_as net
unfolding read_rows
rows_end n net = refl

-- ---- the whole text

pub read-long : (s : List ℕ) → net_bytes < length s → read_net s ≡ refused_at outside_limits 0
unfolding read_net
read-long s h = rw (lt-leb (length s) net_bytes h)

pub read_short : (s : List ℕ) → length s ≤ net_bytes → read_net s ≡ from_header (lines s)
unfolding read_net
read_short s h = rw (le-leb (length s) net_bytes h)

module _ (s line rest : List ℕ) (p : line ≡ take (line_length s) s) (q : rest ≡ drop (line_length s + 2) s) (h : length s ≤ net_bytes) where
  pub header_right : same_bytes line net_header ≡ true → read_net s ≡ from_start (lines rest)
  header_right e = read_short s h ∙ header_line s line rest p q ∙ rw e

  pub header_wrong : same_bytes line net_header ≡ false → read_net s ≡ refused_at line_form 1
  header_wrong e = read_short s h ∙ header_line s line rest p q ∙ rw e
