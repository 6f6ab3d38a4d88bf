-- A net file is accepted exactly if it is readable. What is accepted was put into an orderly net, row by row, so its rows are rows, none
-- is misplaced and no side has too many sets; and of a readable file no sentence of any line holds. So whether a file is accepted and
-- what net is read hang on its lines from 4 on as a set: in which order and how often they stand changes nothing. Assumes nothing.
use Prim.Native.Nat.{ℕ, zero, suc, ◌-◌, ◌≤◌, ◌<◌}
use native.Mathlib.Omega.{arith}
use mathlib.Core.Path.{◌≡◌, refl, sym, ap, ◌∙◌}
use mathlib.Core.Bool.{true, false}
use mathlib.Core.List.{List, [], ◌∷◌, Memᴰ}
use mathlib.Core.Logic.{◌⊎◌, inl, inr, ⊎_elim, ◌↔◌}
use lib.ListN.{length, get_or, drop}
use Rattle.obligations.specs.Limits.{activities}
use Rattle.obligations.proofs.BoolLaws.{true_or_false, false-not-true}
use Rattle.obligations.proofs.SetLaws.{lt_or_le}
use Rattle.obligations.proofs.ListLaws.{member-at}
use Rattle.text.specs.Lines.{lines, HasLine, line_at}
use Rattle.net.specs.Refusals.{Says, accepted, refused, outside_limits}
use Rattle.net.specs.Limits.{sets}
use Rattle.net.specs.Sentences.{NoneHolds}
use Rattle.net.specs.Lists.{listed, AtMost}
use Rattle.net.specs.Sides.{sides_of, empty_at, sets_on, OnSide}
use Rattle.net.specs.Orderly.{orderly}
use Rattle.net.specs.Contained.{Contained}
use Rattle.net.specs.declared.Net.{Net}
use Rattle.net.specs.declared.sides.Side.{Side}
use Rattle.net.specs.declared.sides.Side.TheVariants.{Input, Output}
use Rattle.net.proofs.ListLaws.{listed-first, listed_one}
use Rattle.net.proofs.DistinctLaws.{distinct-within, fewer}
use Rattle.net.proofs.SideLaws.{side_just_empty}
use Rattle.net.proofs.OrderlyLaws.{orderly_facts, orderly_sides, orderly_at_most, sets_length}
use Rattle.net.proofs.WithinLaws.{contained-same, same_empty}
use Rattle.net.proofs.SentenceLaws.{ToldFrom, passed_all, stopped_on, accepted-not-refused}
use Rattle.netfile.specs.Limits.{net_bytes}
use Rattle.netfile.specs.NetFile.{start_word, end_word, FileReading, read_net}
use Rattle.netfile.specs.Refusals.{IsEnd, IsSetRow, ActivityWrong, RowFormWrong, MembersWrong, HoldsEmpty, net_refusals}
use Rattle.netfile.specs.Statements.{HasRow, Readable, SameRows}
use Rattle.netfile.proofs.FileLaws.{read-long}
use Rattle.netfile.proofs.LineReadLaws.{start_exactly, end_exactly, start-same, end_same, end_fine, row_fine}
use Rattle.netfile.proofs.AcceptedLaws.{accepted_parts, rows_are_rows, read-refused, net_orderly, net-uncounted, ok-accepted, accepted_said}
use Rattle.netfile.proofs.ListedLaws.{no_row_missing, net_told, net_listed}

-- ---- what is accepted is readable

module _ (net : Net) (o : orderly net ≡ true) (rows : List (List ℕ)) (on : (side : Side) (a m : ℕ) → HasRow rows side a m → OnSide net side a m) where
  -- a row is on no side that holds just the empty set
  none_there : (side : Side) (m : ℕ) → empty_at net side < activities → HasRow rows side (empty_at net side) m → ⊥
  none_there side m h r =
      let z = side_just_empty (sides_of net side) (empty_at net side) (orderly_sides net o side) (empty_at net side) h refl in
      let e = listed_one m 0 (rw z at (on side (empty_at net side) m r)) in omega (arith, r.is_row.not_empty)

  rows_at_most : (side : Side) (a : ℕ) → AtMost sets (HasRow rows side a)
  rows_at_most side a ms d f = ⊎_elim inside (outside ms f) (lt_or_le a activities)
    where
      inside : a < activities → length ms ≤ sets
      inside h = let k = distinct-within ms (sets_on net side a) d (λ m i. on side a m (f m i)) in omega (arith, sets_length net o side a h, orderly_at_most net o side a h)

      outside : (ms : List ℕ) → ((m : ℕ) → listed m ms ≡ true → HasRow rows side a m) → activities ≤ a → length ms ≤ sets
      outside [] f h = omega arith
      outside (x ∷ xs) f h = absurd (omega (arith, (f x (listed-first x xs)).is_row.is_activity))

pub accepted_readable : (text : List ℕ) → (read_net text).says ≡ accepted 0 → Readable text
accepted_readable text q =
    let net = (read_net text).net in
    let a = accepted_parts text (ap (λ (s : Says). s.ok) q) in
    let s = accepted_said text q in
    let f = orderly_facts net (net_orderly text) in
    let e : a.rows ≡ s.rows = sym (ap (drop 3) a.are_lines) ∙ ap (drop 3) s.are_lines in
    let on : (side : Side) (b m : ℕ) → HasRow s.rows side b m → OnSide net side b m = λ side b m r. (s.sets_read side b m).1 (inr r) in
    record {
      within = ⊎_elim (λ l. absurd (accepted-not-refused 0 outside_limits 0 (sym q ∙ ap (λ (r : FileReading). r.says) (read-long text l)))) (λ l. l) (lt_or_le net_bytes (length text));
      start = net.start;
      end = net.end;
      rows = s.rows;
      are_lines = s.are_lines;
      start_activity = f.start_activity;
      end_activity = f.end_activity;
      differ = f.differ;
      all_rows = λ line i. rows_are_rows 4 _ a.rows a.fine line (rw e i);
      no_start_input = λ m r. none_there net (net_orderly text) s.rows on Input m f.start_activity r;
      no_end_output = λ m r. none_there net (net_orderly text) s.rows on Output m f.end_activity r;
      at_most = rows_at_most net (net_orderly text) s.rows on;
    }

-- ---- of a readable text no sentence holds

module _ (text : List ℕ) (r : Readable text) where
  long : length (lines text) ≡ suc (suc (suc (length r.rows)))
  long = ap length r.are_lines

  is_start : IsEnd start_word r.start (line_at text 2)
  is_start = record { is_text = ap (λ (ls : List (List ℕ)). get_or ls 1 []) r.are_lines; is_activity = r.start_activity }

  is_end : IsEnd end_word r.end (line_at text 3)
  is_end = record { is_text = ap (λ (ls : List (List ℕ)). get_or ls 2 []) r.are_lines; is_activity = r.end_activity }

  -- each line from 4 on is one of the rows
  line_there : (n : ℕ) → 4 ≤ n → HasLine text n → Memᴰ (line_at text n) r.rows
  line_there n h k =
      let e : n - 1 ≡ suc (suc (suc (n - 4))) = omega arith in
      rw (e, r.are_lines) (member-at r.rows (n - 4) [] (omega (arith, long)))

  row_there : (n : ℕ) (side : Side) (a m : ℕ) → 4 ≤ n → IsSetRow side a m (line_at text n) → HasRow r.rows side a m
  row_there n side a m h i =
      ⊎_elim (λ l. absurd (no_row_missing text n (λ k. omega arith) side a m i)) (λ l. record { line = line_at text n; there = line_there n h l; is_row = i }) (lt_or_le (length (lines text)) n)

  not_misplaced : (side : Side) (a m : ℕ) → HasRow r.rows side a m → HoldsEmpty text side a → ⊥
  not_misplaced Input a m w e = r.no_start_input m (rw (start-same (line_at text 2) a r.start e is_start) at w)
  not_misplaced Output a m w e = r.no_end_output m (rw (end_same (line_at text 3) a r.end e is_end) at w)

  line_fine : (n : ℕ) → 4 ≤ n → HasLine text n → (RowFormWrong (line_at text n) → ⊥) × (ActivityWrong (line_at text n) ⊎ MembersWrong (line_at text n) → ⊥)
  line_fine n h k = let i = r.all_rows (line_at text n) (line_there n h k) in row_fine (line_at text n) i.0 i.1 i.2 i.3

  none_readable : (n : ℕ) → NoneHolds (net_refusals text n)
  none_readable zero = λ k p. ⊎_elim (λ w. omega (arith, w.1.bad, r.within)) (λ w. w)
  none_readable (suc zero) = λ k p. ⊎_elim (λ w. ⊎_elim (λ m. m (omega (arith, long))) (λ f. f (ap (λ (ls : List (List ℕ)). get_or ls 0 []) r.are_lines)) w.1.bad) (λ w. w)
  none_readable (suc (suc zero)) =
      let f = end_fine start_word (line_at text 2) r.start ((start_exactly (line_at text 2) r.start).1 is_start) in
      λ k p. ⊎_elim (λ w. ⊎_elim (λ m. m (omega (arith, long))) f.0 w.1.bad) (⊎_elim (λ w. f.1 w.1.bad) (λ w. w))
  none_readable (suc (suc (suc zero))) =
      let f = end_fine end_word (line_at text 3) r.end ((end_exactly (line_at text 3) r.end).1 is_end) in
      λ k p.
      ⊎_elim (λ w. ⊎_elim (λ m. m (omega (arith, long))) f.0 w.1.bad)
      (⊎_elim (λ w. f.1 w.1.bad)
      (⊎_elim (λ w. let b = w.1.bad in r.differ (start-same (line_at text 2) r.start b.activity is_start b.is_start ∙ end_same (line_at text 3) b.activity r.end b.is_end is_end)) (λ w. w)))
  none_readable (suc (suc (suc (suc n)))) =
      λ k p.
      ⊎_elim (λ w. (line_fine (suc (suc (suc (suc n)))) (omega arith) w.1.bad.0).0 w.1.bad.1)
      (⊎_elim (λ w. (line_fine (suc (suc (suc (suc n)))) (omega arith) w.1.bad.0).1 w.1.bad.1)
      (⊎_elim (λ w. let b = w.1.bad in not_misplaced b.side b.activity b.set (row_there (suc (suc (suc (suc n)))) b.side b.activity b.set (omega arith) b.is_row) b.only_empty)
      (⊎_elim (λ w. let b = w.1.bad in b.too_many (fewer sets _ _ (λ m u. row_there u.line b.side b.activity m u.low u.is_row) (r.at_most b.side b.activity))) (λ w. w))))

pub readable_accepted : (text : List ℕ) → Readable text → (read_net text).says ≡ accepted 0
readable_accepted text r = go (net_told text) ((net_listed text).not_refused_exactly.1 (none_readable text r))
  where
    go : {answer : Says} → ToldFrom refused (net_refusals text) (accepted 0) 0 answer → ((n p : ℕ) → answer ≡ refused n p → ⊥) → answer ≡ accepted 0
    go (passed_all f) never = refl
    go (stopped_on n l h f o) never = absurd (never n l refl)

-- ---- the rows as a set

has_row_in : (ls ks : List (List ℕ)) → ((line : List ℕ) → Memᴰ line ls → Memᴰ line ks) → (side : Side) (a m : ℕ) → HasRow ls side a m → HasRow ks side a m
has_row_in ls ks f side a m r = record { line = r.line; there = f r.line r.there; is_row = r.is_row }

same_swapped : (text other : List ℕ) → SameRows text other → SameRows other text
same_swapped text other s = record {
  within = s.other_within;
  other_within = s.within;
  header_line = s.header_line;
  start_line = s.start_line;
  end_line = s.end_line;
  rows = s.other_rows;
  other_rows = s.rows;
  are_lines = s.are_other_lines;
  are_other_lines = s.are_lines;
  same = λ line. ((s.same line).1, (s.same line).0);
}

readable_same : (text other : List ℕ) → SameRows text other → Readable text → Readable other
readable_same text other s r =
    let d = ap (drop 3) s.are_lines in
    let e = ap (drop 3) r.are_lines in
    let rows : s.rows ≡ r.rows = sym d ∙ e in
    let back : (line : List ℕ) → Memᴰ line s.other_rows → Memᴰ line r.rows = λ line i. rw rows at ((s.same line).1 i) in
    let first = sym s.are_lines ∙ r.are_lines in
    record {
      within = s.other_within;
      start = r.start;
      end = r.end;
      rows = s.other_rows;
      are_lines =
          s.are_other_lines
          ∙ rw (ap (λ (ls : List (List ℕ)). get_or ls 0 []) first, ap (λ (ls : List (List ℕ)). get_or ls 1 []) first, ap (λ (ls : List (List ℕ)). get_or ls 2 []) first);
      start_activity = r.start_activity;
      end_activity = r.end_activity;
      differ = r.differ;
      all_rows = λ line i. r.all_rows line (back line i);
      no_start_input = λ m w. r.no_start_input m (has_row_in _ _ back Input r.start m w);
      no_end_output = λ m w. r.no_end_output m (has_row_in _ _ back Output r.end m w);
      at_most = λ side a. fewer sets _ _ (λ m w. has_row_in _ _ back side a m w) (r.at_most side a);
    }

pub same-accepted : (text other : List ℕ) → SameRows text other → ((read_net text).says ≡ accepted 0) ↔ ((read_net other).says ≡ accepted 0)
same-accepted text other s = (
  (λ q. readable_accepted other (readable_same text other s (accepted_readable text q))),
  (λ q. readable_accepted text (readable_same other text (same_swapped text other s) (accepted_readable other q))),
)

-- nets that were read of texts with the same rows contain each other
same-contained : (text other : List ℕ) → SameRows text other → (read_net text).says ≡ accepted 0 → (read_net other).says ≡ accepted 0 → Contained (read_net text).net (read_net other).net
same-contained text other s p q =
    let x = (read_net text).net in
    let y = (read_net other).net in
    let f = accepted_said text p in
    let g = accepted_said other q in
    let first = sym s.are_lines ∙ f.are_lines in
    let second = sym s.are_other_lines ∙ g.are_lines in
    let i = orderly_facts x (net_orderly text) in
    let j = orderly_facts y (net_orderly other) in
    let starts = start-same s.start_line x.start y.start (record { is_text = ap (λ (ls : List (List ℕ)). get_or ls 1 []) first; is_activity = i.start_activity }) (record { is_text = ap (λ (ls : List (List ℕ)). get_or ls 1 []) second; is_activity = j.start_activity }) in
    let ends = end_same s.end_line x.end y.end (record { is_text = ap (λ (ls : List (List ℕ)). get_or ls 2 []) first; is_activity = i.end_activity }) (record { is_text = ap (λ (ls : List (List ℕ)). get_or ls 2 []) second; is_activity = j.end_activity }) in
    let there : (line : List ℕ) → Memᴰ line f.rows → Memᴰ line g.rows = λ line k. rw (ap (drop 3) second) at ((s.same line).0 (rw (sym (ap (drop 3) first)) at k)) in
    record {
      same_start = starts;
      same_end = ends;
      among = λ side a m h k. (g.sets_read side a m).1 (⊎_elim (λ e. inl (e.0 ∙ same_empty x y side starts ends, e.1)) (λ r. inr (has_row_in _ _ there side a m r)) ((f.sets_read side a m).0 k));
    }

pub same-net : (text other : List ℕ) → SameRows text other → (read_net text).net ≡ (read_net other).net
same-net text other s = elim (true_or_false (read_net text).says.ok) [
  | inl h ↦
      let p = ok-accepted text h in
      let q = (same-accepted text other s).0 p in
      sym (net-uncounted text)
      ∙ contained-same (read_net text).net (read_net other).net (net_orderly text) (net_orderly other) (same-contained text other s p q) (same-contained other text (same_swapped text other s) q p)
      ∙ net-uncounted other
  | inr h ↦
      let k : (read_net other).says.ok ≡ false = ⊎_elim (λ t. absurd (false-not-true h (ap (λ (u : Says). u.ok) ((same-accepted text other s).1 (ok-accepted other t))))) (λ t. t) (true_or_false (read_net other).says.ok) in
      read-refused text h ∙ sym (read-refused other k)
]
