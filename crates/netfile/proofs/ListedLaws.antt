-- Net reading answers as its refusals are listed by line. Each line is decided by its own sentences: a line that is read in full has
-- none that holds, and else the one that is said is the first that holds. The rows are followed with the net so far, which holds the
-- two empty sets and the sets of the rows on the lines from 4 on, so that what put says of a row is what its line's sentences say.
-- Assumes nothing.
use Prim.Native.Nat.{ℕ, zero, suc, ◌+◌, ◌-◌, ◌≤◌}
use native.Mathlib.Decide.{ℕ_discrete as dec_eq}
use native.Mathlib.Numerals.{add-one}
use native.Mathlib.Omega.{arith}
use mathlib.Core.Path.{◌≡◌, refl, sym, ap, ◌∙◌}
use mathlib.Core.Bool.{Bool, true, false, cond, not}
use mathlib.Core.List.{List, [], ◌∷◌}
use mathlib.Core.Logic.{◌⊎◌, inl, inr, ⊎_elim, ◌↔◌}
use lib.Dec.{leb, eqb}
use lib.ListN.{length, drop, get_or-eq_default}
use borrow.Author.Tests.{leb-true, leb-false, eqb-true, eqb-false}
use Rattle.obligations.proofs.BoolLaws.{false-not-true}
use Rattle.text.specs.Bytes.{same_bytes}
use Rattle.text.specs.Lines.{lines, HasLine, line_at}
use Rattle.text.proofs.ByteLaws.{same_exactly}
use Rattle.text.proofs.LineLaws.{line-next, none_next}
use Rattle.net.specs.Refusals.{Says, accepted, refused, bad_ends, outside_limits, misplaced_set, full_side, line_form, number_form}
use Rattle.net.specs.Limits.{sets}
use Rattle.net.specs.Sentences.{NoneHolds, order_on_line, AsListedByLine}
use Rattle.net.specs.Lists.{AtMost}
use Rattle.net.specs.Chains.{unless_by}
use Rattle.net.specs.Sides.{empty_at, OnSide}
use Rattle.net.specs.Orderly.{orderly}
use Rattle.net.specs.Fresh.{fresh_net}
use Rattle.std.specs.Prelude.{Result}
use Rattle.net.specs.declared.refusal.Refusal.{Refusal}
use Rattle.net.specs.Put.{Exceeds, put_says, put_gives}
use Rattle.net.specs.declared.Net.{Net}
use Rattle.net.specs.declared.sides.Side.{Side}
use Rattle.net.specs.declared.sides.Side.TheVariants.{Input, Output}
use Rattle.net.proofs.SentenceLaws.{ascends, InOrder, ToldFrom, passed_all, line_passes, line_stops, told_by_line, refused-same, accepted-not-refused, holds-whole, not-whole}
use Rattle.net.proofs.OrderlyLaws.{facts_ends}
use Rattle.net.proofs.FreshLaws.{fresh_start, fresh-end, fresh_orderly, fresh_on_side}
use Rattle.net.proofs.PutLaws.{put_start, put_end, put_orderly, put_on_side}
use Rattle.net.proofs.WithinLaws.{same_empty}
use Rattle.net.proofs.RefusalLaws.{PutCase, said_misplaced, said_full, said_put, put_case}
use Rattle.net.proofs.DistinctLaws.{fewer}
use Rattle.netfile.specs.Limits.{net_bytes}
use Rattle.netfile.specs.NetFile.{net_header, start_word, end_word, read_end, read_set_row, row_says, row_gives, refused_at, read_rows, after_end, from_end, after_start, from_start, from_header, read_net}
use Rattle.netfile.specs.Refusals.{IsEnd, IsSetRow, HoldsEmpty, MisplacedRow, RowUpTo, FullSide, net_refusals}
use Rattle.netfile.specs.declared.line.SetRow.{SetRow}
use Rattle.netfile.proofs.RowLaws.{row_commas as row-commas-said}
use Rattle.netfile.proofs.LineReadLaws.{EndSaid, end_form, end_no_activity, end_row, end_said, start-same, end_same, RowSaid, row_form, row_number, set_row, row_said, row_exactly, row_same}

-- ---- lines by their numbers

module _ (text : List ℕ) where
  line_missing : (n : ℕ) → (HasLine text n → ⊥) → line_at text n ≡ []
  line_missing n f = get_or-eq_default (lines text) [] {n = n - 1} (omega arith)

  pub no_row_missing : (n : ℕ) → (HasLine text n → ⊥) → (side : Side) (a m : ℕ) → IsSetRow side a m (line_at text n) → ⊥
  no_row_missing n f side a m i =
      let p = (row_exactly (line_at text n) side a m).1 i in
      let q = row-commas-said [] (λ e. omega arith) in
      let e = ap read_set_row (line_missing n f) in
      let z : ◌≡◌ {A = ℕ} 0 1 = cc in omega arith

  -- no sentence holds of a row's line that isn't there
  none_missing : (n : ℕ) → 4 ≤ n → (HasLine text n → ⊥) → NoneHolds (net_refusals text n)
  none_missing zero h f = absurd (omega arith)
  none_missing (suc zero) h f = absurd (omega arith)
  none_missing (suc (suc zero)) h f = absurd (omega arith)
  none_missing (suc (suc (suc zero))) h f = absurd (omega arith)
  none_missing (suc (suc (suc (suc n)))) h f =
      λ k p.
      ⊎_elim (λ w. f w.1.bad.0)
      (⊎_elim (λ w. f w.1.bad.0)
      (⊎_elim (λ w. let b = w.1.bad in no_row_missing (suc (suc (suc (suc n)))) f b.side b.activity b.set b.is_row)
      (⊎_elim (λ w. let b = w.1.bad in no_row_missing (suc (suc (suc (suc n)))) f b.side b.activity b.set b.is_row) (λ w. w))))

  -- the rows up to a line are those up to the line before and its own
  up_to_next : (n : ℕ) (side : Side) (a m : ℕ) → 3 ≤ n → RowUpTo text (suc n) side a m ↔ (RowUpTo text n side a m ⊎ IsSetRow side a m (line_at text (suc n)))
  up_to_next n side a m h = (
    (λ r. elim (dec_eq r.line (suc n)) [
      | yes e ↦ inr (rw e at r.is_row)
      | no d ↦ inl (record { line = r.line; low = r.low; high = omega (arith, r.high); is_row = r.is_row })
    ]),
    (λ w. ⊎_elim (λ r. record { line = r.line; low = r.low; high = omega (arith, r.high); is_row = r.is_row }) (λ i. record { line = suc n; low = omega arith; high = omega arith; is_row = i }) w),
  )

  -- ---- the net so far, after the rows on the lines up to n

  record SoFar (n : ℕ) (net : Net) : Type 0 where
    is_orderly : orderly net ≡ true
    is_start : IsEnd start_word net.start (line_at text 2)
    is_end : IsEnd end_word net.end (line_at text 3)
    holds : (side : Side) (a m : ℕ) → OnSide net side a m ↔ (((a ≡ empty_at net side) × (m ≡ 0)) ⊎ RowUpTo text n side a m)

  only_empty : (n : ℕ) (net : Net) → SoFar n net → (side : Side) (a : ℕ) → HoldsEmpty text side a ↔ (a ≡ empty_at net side)
  only_empty n net s Input a = ((λ i. start-same (line_at text 2) a net.start i s.is_start), (λ e. rw e s.is_start))
  only_empty n net s Output a = ((λ i. end_same (line_at text 3) a net.end i s.is_end), (λ e. rw e s.is_end))

  module _ (n : ℕ) (low : 3 ≤ n) (net : Net) (s : SoFar n net) (side : Side) (a m : ℕ) (i : IsSetRow side a m (line_at text (suc n))) where
    -- 5 is said as its sentence holds
    misplaced_row : a ≡ empty_at net side → MisplacedRow text (suc n)
    misplaced_row e = record { side = side; activity = a; set = m; is_row = i; only_empty = (only_empty n net s side a).1 e }

    not_misplaced : (a ≡ empty_at net side → ⊥) → MisplacedRow text (suc n) → ⊥
    not_misplaced f r =
        let e = row_same (line_at text (suc n)) r.side side r.activity a r.set m r.is_row i in
        let k : HoldsEmpty text side a = rw (e.0, e.1) at r.only_empty in
        f ((only_empty n net s side a).0 k)

    -- the sets of the rows up to this line, of this row's side
    module _ (f : a ≡ empty_at net side → ⊥) where
      row_sets : (x : ℕ) → RowUpTo text (suc n) side a x ↔ (OnSide net side a x ⊎ (x ≡ m))
      row_sets x = (
        (λ r. ⊎_elim (λ u. inl ((s.holds side a x).1 (inr u))) (λ j. inr (row_same (line_at text (suc n)) side side a a x m j i).2) ((up_to_next n side a x low).0 r)),
        (λ w. (up_to_next n side a x low).1 (⊎_elim (λ o. ⊎_elim (λ e. absurd (f e.0)) (λ u. inl u) ((s.holds side a x).0 o)) (λ e. inr (rw e i)) w)),
      )

      -- 12 is said as its sentence holds
      full_row : Exceeds net side a m → FullSide text (suc n)
      full_row g = record { side = side; activity = a; set = m; is_row = i; too_many = λ h. g (fewer sets _ _ (λ x. (row_sets x).1) h) }

      not_full : (Exceeds net side a m → ⊥) → FullSide text (suc n) → ⊥
      not_full g r =
          let e = row_same (line_at text (suc n)) r.side side r.activity a r.set m r.is_row i in
          let k : AtMost sets (RowUpTo text (suc n) side a) → ⊥ = rw (e.0, e.1) at r.too_many in
          g (λ h. k (fewer sets _ _ (λ x. (row_sets x).0) h))

    -- the net so far with this row's set
    next_so_far : (put_says net side a m).ok ≡ true → SoFar (suc n) (put_gives net side a m)
    next_so_far ok = record {
      is_orderly = put_orderly net side a m s.is_orderly;
      is_start = rw (put_start net side a m) s.is_start;
      is_end = rw (put_end net side a m) s.is_end;
      holds = λ t b x.
          let f = put_on_side net side a m ok t b x in
          let g = up_to_next n t b x low in
          let z = same_empty (put_gives net side a m) net t (put_start net side a m) (put_end net side a m) in (
            (λ o. ⊎_elim (λ k. ⊎_elim (λ e. inl (e.0 ∙ sym z, e.1)) (λ u. inr (g.1 (inl u))) ((s.holds t b x).0 k)) (λ e. inr (g.1 (inr (rw (e.0, e.1, e.2) i)))) (f.0 o)),
            (λ w.
                f.1
                (⊎_elim (λ e. inl ((s.holds t b x).1 (inl (e.0 ∙ z, e.1))))
                (λ r. ⊎_elim (λ u. inl ((s.holds t b x).1 (inr u))) (λ j. inr (row_same (line_at text (suc n)) t side b a x m j i)) (g.0 r)) w)),
          );
    }

  -- ---- the rows

  abbrev Told : ℕ → Says → Type 0
  Told line answer = ToldFrom refused (net_refusals text) (accepted 0) line answer

  stops : (line n : ℕ) → InOrder (net_refusals text line) n 0 → Told line (refused n line)
  stops = line_stops refused (net_refusals text) (accepted 0)

  passes : (line : ℕ) (answer : Says) → NoneHolds (net_refusals text line) → Told (suc line) answer → Told line answer
  passes = line_passes refused (net_refusals text) (accepted 0)

  -- one row on line 4 + j, and the rows after it
  row_told : (j : ℕ) (net : Net) (ls : List (List ℕ)) → SoFar (suc (suc (suc j))) net → HasLine text (suc (suc (suc (suc j)))) → {row : Result SetRow Refusal} → RowSaid (line_at text (suc (suc (suc (suc j))))) row
      → ((net' : Net) → SoFar (suc (suc (suc (suc j)))) net' → Told (suc (suc (suc (suc (suc j))))) (read_rows (suc (suc (suc (suc j))) + 1) net' ls).says)
      → Told (suc (suc (suc (suc j))))
      (cond (row_says net row).ok (read_rows (suc (suc (suc (suc j))) + 1) (row_gives net row) ls) (refused_at (row_says net row).refusal (suc (suc (suc (suc j)))))).says
  row_told j net ls s has (row_form w) next = stops (suc (suc (suc (suc j)))) line_form (inl (refl, holds-whole (has, w)))
  row_told j net ls s has (row_number f w) next = stops (suc (suc (suc (suc j)))) number_form (inr (not-whole (λ b. f b.1), inl (refl, holds-whole (has, w))))
  row_told j net ls s has (set_row side a m f g i) next = put (put_case net side a m s.is_orderly i.is_activity i.not_empty)
    where
      low : 3 ≤ suc (suc (suc j))
      low = omega arith

      put : PutCase net side a m
          → Told (suc (suc (suc (suc j))))
          (cond (put_says net side a m).ok (read_rows (suc (suc (suc (suc j))) + 1) (put_gives net side a m) ls) (refused_at (put_says net side a m).refusal (suc (suc (suc (suc j)))))).says
      put (said_misplaced q e) =
          rw q
          (stops (suc (suc (suc (suc j)))) misplaced_set
          (inr (not-whole (λ b. f b.1), inr (not-whole (λ b. g b.1), inl (refl, holds-whole (misplaced_row (suc (suc (suc j))) low net s side a m i e))))))
      put (said_full q d e) =
          rw q
          (stops (suc (suc (suc (suc j)))) full_side
          (inr (not-whole (λ b. f b.1), inr (not-whole (λ b. g b.1), inr (not-whole (not_misplaced (suc (suc (suc j))) low net s side a m i d), inl (refl, holds-whole (full_row (suc (suc (suc j))) low net s side a m i d e)))))))
      put (said_put ok d e) =
          rw ok
          (passes (suc (suc (suc (suc j)))) _
          (λ n p.
          ⊎_elim (λ w. f w.1.bad.1)
          (⊎_elim (λ w. g w.1.bad.1)
          (⊎_elim (λ w. not_misplaced (suc (suc (suc j))) low net s side a m i d w.1.bad) (⊎_elim (λ w. not_full (suc (suc (suc j))) low net s side a m i d e w.1.bad) (λ w. w)))))
          (next (put_gives net side a m) (next_so_far (suc (suc (suc j))) low net s side a m i ok)))

  -- the rows from line 4 + j on
  rows_told : (j : ℕ) (net : Net) (ls : List (List ℕ)) → drop (suc (suc (suc j))) (lines text) ≡ ls → SoFar (suc (suc (suc j))) net
      → Told (suc (suc (suc (suc j)))) (read_rows (suc (suc (suc (suc j)))) net ls).says
  unfolding read_rows
  rows_told j net [] e s =
      passed_all (λ l h. none_missing l (omega arith) (none_next text (suc (suc (suc j))) l e (omega arith)))
  rows_told j net (l ∷ ls) e s =
      let w = line-next text (suc (suc (suc j))) l ls e in
      let r : RowSaid (line_at text (suc (suc (suc (suc j))))) (read_set_row l) = rw (← w.1) (row_said (line_at text (suc (suc (suc (suc j)))))) in
      row_told j net ls s w.0 r (λ net' t. rw add-one (rows_told (suc j) net' ls w.2 t))

  -- ---- the lines before the rows

  -- the fresh net of the start and the end
  fresh_so_far : (start end : ℕ) → IsEnd start_word start (line_at text 2) → IsEnd end_word end (line_at text 3) → (start ≡ end → ⊥) → SoFar 3 (fresh_net start end)
  fresh_so_far start end s e d =
      let ok = facts_ends start end s.is_activity e.is_activity d in
      record {
        is_orderly = fresh_orderly start end ok;
        is_start = rw (fresh_start start end) s;
        is_end = rw (fresh-end start end) e;
        holds = λ side a m. (
          (λ o. inl ((fresh_on_side start end ok side a m).0 o)),
          (λ w. ⊎_elim (λ z. (fresh_on_side start end ok side a m).1 z) (λ r. absurd (omega (arith, r.low, r.high))) w),
        );
      }

  third_told : (start : ℕ) (ls : List (List ℕ)) → IsEnd start_word start (line_at text 2) → HasLine text 3 → drop 3 (lines text) ≡ ls → {row : Result ℕ Refusal} → EndSaid end_word (line_at text 3) row → Told 3 (after_end start row ls).says
  third_told start ls s has e (end_form w) = stops 3 line_form (inl (refl, holds-whole (inr w)))
  third_told start ls s has e (end_no_activity f w) = stops 3 number_form (inr (not-whole (⊎_elim (λ m. m has) f), inl (refl, holds-whole w)))
  third_told start ls s has e (end_row end f g i) = go (eqb start end) refl
    where
      go : (t : Bool) → eqb start end ≡ t → Told 3 (unless_by refused_at (not t) bad_ends 3 (read_rows 4 (fresh_net start end) ls)).says
      go true q =
          stops 3 bad_ends
          (inr (not-whole (⊎_elim (λ m. m has) f), inr (not-whole g, inl (refl, holds-whole (record { activity = start; is_start = s; is_end = rw (eqb-true start end q) i })))))
      go false q =
          let d = eqb-false start end q in
          passes 3 _
          (λ n p.
          ⊎_elim (λ w. ⊎_elim (λ m. m has) f w.1.bad)
          (⊎_elim (λ w. g w.1.bad)
          (⊎_elim (λ w. let b = w.1.bad in d (start-same (line_at text 2) start b.activity s b.is_start ∙ end_same (line_at text 3) b.activity end b.is_end i)) (λ w. w))))
          (rows_told 0 (fresh_net start end) ls e (fresh_so_far start end s i d))

  from_third : (start : ℕ) (ls : List (List ℕ)) → IsEnd start_word start (line_at text 2) → drop 2 (lines text) ≡ ls → Told 3 (from_end start ls).says
  unfolding from_end
  from_third start [] s e = stops 3 line_form (inl (refl, holds-whole (inl (none_next text 2 3 e (omega arith)))))
  from_third start (l ∷ ls) s e =
      let w = line-next text 2 l ls e in
      let r : EndSaid end_word (line_at text 3) (read_end end_word l) = rw (← w.1) (end_said end_word (line_at text 3)) in
      third_told start ls s w.0 w.2 r

  second_told : (ls : List (List ℕ)) → HasLine text 2 → drop 2 (lines text) ≡ ls → {row : Result ℕ Refusal} → EndSaid start_word (line_at text 2) row → Told 2 (after_start row ls).says
  second_told ls has e (end_form w) = stops 2 line_form (inl (refl, holds-whole (inr w)))
  second_told ls has e (end_no_activity f w) = stops 2 number_form (inr (not-whole (⊎_elim (λ m. m has) f), inl (refl, holds-whole w)))
  second_told ls has e (end_row start f g i) =
      passes 2 _ (λ n p. ⊎_elim (λ w. ⊎_elim (λ m. m has) f w.1.bad) (⊎_elim (λ w. g w.1.bad) (λ w. w))) (from_third start ls i e)

  from_second : (ls : List (List ℕ)) → drop 1 (lines text) ≡ ls → Told 2 (from_start ls).says
  unfolding from_start
  from_second [] e = stops 2 line_form (inl (refl, holds-whole (inl (none_next text 1 2 e (omega arith)))))
  from_second (l ∷ ls) e =
      let w = line-next text 1 l ls e in
      let r : EndSaid start_word (line_at text 2) (read_end start_word l) = rw (← w.1) (end_said start_word (line_at text 2)) in
      second_told ls w.0 w.2 r

  from_first : (ls : List (List ℕ)) → lines text ≡ ls → Told 1 (from_header ls).says
  unfolding from_header
  from_first [] e = stops 1 line_form (inl (refl, holds-whole (inl (none_next text 0 1 e (omega arith)))))
  from_first (l ∷ ls) e = go (same_bytes l net_header) refl
    where
      w : HasLine text 1 × (line_at text 1 ≡ l) × (drop 1 (lines text) ≡ ls)
      w = line-next text 0 l ls e

      go : (t : Bool) → same_bytes l net_header ≡ t → Told 1 (cond t (from_start ls) (refused_at line_form 1)).says
      go true q =
          passes 1 _
          (λ n p. ⊎_elim (λ b. ⊎_elim (λ m. m w.0) (λ f. f (w.1 ∙ (same_exactly l net_header).0 q)) b.1.bad) (λ b. b))
          (from_second ls w.2)
      go false q = stops 1 line_form (inl (refl, holds-whole (inr (λ h. false-not-true q ((same_exactly l net_header).1 (sym w.1 ∙ h))))))

  pub net_told : ToldFrom refused (net_refusals text) (accepted 0) 0 (read_net text).says
  unfolding read_net
  net_told = go (leb (length text) net_bytes) refl
    where
      go : (t : Bool) → leb (length text) net_bytes ≡ t → Told 0 (cond t (from_header (lines text)) (refused_at outside_limits 0)).says
      go true q =
          passes 0 _
          (λ n p. ⊎_elim (λ w. let k = leb-true (length text) net_bytes q in omega (arith, w.1.bad)) (λ w. w))
          (from_first (lines text) refl)
      go false q = stops 0 outside_limits (inl (refl, holds-whole (leb-false (length text) net_bytes q)))

  ascending : (line : ℕ) → ascends order_on_line 0 (net_refusals text line) ≡ true
  ascending zero = refl
  ascending (suc zero) = refl
  ascending (suc (suc zero)) = refl
  ascending (suc (suc (suc zero))) = refl
  ascending (suc (suc (suc (suc n)))) = refl

  pub net_listed : AsListedByLine refused (net_refusals text) (read_net text).says
  net_listed = told_by_line refused (net_refusals text) (accepted 0) refused-same (accepted-not-refused 0) ascending net_told
