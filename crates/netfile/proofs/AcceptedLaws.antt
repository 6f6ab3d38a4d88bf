-- Laws of an accepted reading: its rows were all put, so the net is orderly, keeps its start and end, and holds exactly the
-- rows' sets besides what it held; and the three lines before the rows. By induction on the lines. Assumes nothing.
use Prim.Native.Nat.{ℕ, ◌+◌}
use mathlib.Core.Path.{◌≡◌, refl, sym, ap, ◌∙◌}
use mathlib.Core.Bool.{Bool, true, false, not, cond}
use mathlib.Core.Logic.{◌⊎◌, inl, inr, ⊎_elim, ◌↔◌}
use mathlib.Core.List.Memᴰ
use mathlib.Core.List.{List, [], ◌∷◌, Memᴰ}
use lib.Dec.{leb, eqb}
use lib.ListN.{length}
use borrow.Author.Tests.{eqb-false}
use Rattle.obligations.proofs.BoolLaws.{true_or_false, false-not-true}
use Rattle.text.specs.Bytes.{same_bytes}
use Rattle.text.specs.Lines.{lines}
use Rattle.text.proofs.ByteLaws.{same_equal}
use Rattle.net.specs.Refusals.{Says, accepted, outside_limits, line_form}
use Rattle.net.specs.Chains.{unless_by}
use Rattle.net.specs.Sides.{uncounted, OnSide}
use Rattle.net.specs.Orderly.{ends_ok, orderly}
use Rattle.net.specs.Fresh.{fresh_net}
use Rattle.net.specs.declared.Net.{Net}
use Rattle.std.specs.Prelude.{Result, Ok, Err}
use Rattle.net.specs.declared.refusal.Refusal.{Refusal}
use Rattle.net.specs.declared.sides.Side.{Side}
use Rattle.net.proofs.OrderlyLaws.{facts_ends}
use Rattle.net.proofs.FreshLaws.{fresh_start, fresh-end, fresh_on_side, fresh_orderly, zero_one, fresh-uncounted}
use Rattle.net.proofs.PutLaws.{put_start, put_end, put_on_side}
use Rattle.net.proofs.WithinLaws.{same_empty}
use Rattle.netfile.specs.Limits.{net_bytes}
use Rattle.netfile.specs.NetFile.{net_header, start_word, end_word, row_of_set, read_end, read_set_row, row_says, row_gives, FileReading, refused_at, read_rows, after_end, from_end, after_start, from_start, from_header, read_net}
use Rattle.netfile.specs.Refusals.{IsSetRow}
use Rattle.netfile.specs.Statements.{HasRow, SaidBy}
use Rattle.netfile.specs.declared.line.SetRow.{SetRow}
use Rattle.netfile.proofs.PutRowLaws.{row-orderly, row-uncounted}
use Rattle.netfile.proofs.LineReadLaws.{end_is, start_exactly, end_exactly, RowSaid, row_form, row_number, set_row, row_said, row_exactly}

-- the net of a refused reading
pub refused-orderly : orderly (fresh_net 0 1) ≡ true
refused-orderly = fresh_orderly 0 1 zero_one

-- ---- the rows

pub rows_orderly : (n : ℕ) (net : Net) (ls : List (List ℕ)) → orderly net ≡ true → orderly (read_rows n net ls).net ≡ true
unfolding read_rows
rows_orderly n net [] o = o
rows_orderly n net (l ∷ ls) o = go (row_says net (read_set_row l)).ok (rows_orderly (n + 1) (row_gives net (read_set_row l)) ls (row-orderly net (read_set_row l) o))
  where
    go : (t : Bool) → orderly (read_rows (n + 1) (row_gives net (read_set_row l)) ls).net ≡ true
        → orderly (cond t (read_rows (n + 1) (row_gives net (read_set_row l)) ls) (refused_at (row_says net (read_set_row l)).refusal n)).net ≡ true
    go true h = h
    go false h = refused-orderly

-- rows leave the counts 0
pub rows-uncounted : (n : ℕ) (net : Net) (ls : List (List ℕ)) → orderly net ≡ true → uncounted net ≡ net → uncounted (read_rows n net ls).net ≡ (read_rows n net ls).net
unfolding read_rows
rows-uncounted n net [] o e = e
rows-uncounted n net (l ∷ ls) o e =
    go (row_says net (read_set_row l)).ok (rows-uncounted (n + 1) (row_gives net (read_set_row l)) ls (row-orderly net (read_set_row l) o) (row-uncounted net (read_set_row l) o e))
  where
    go : (t : Bool) → uncounted (read_rows (n + 1) (row_gives net (read_set_row l)) ls).net ≡ (read_rows (n + 1) (row_gives net (read_set_row l)) ls).net
        → uncounted (cond t (read_rows (n + 1) (row_gives net (read_set_row l)) ls) (refused_at (row_says net (read_set_row l)).refusal n)).net
        ≡ (cond t (read_rows (n + 1) (row_gives net (read_set_row l)) ls) (refused_at (row_says net (read_set_row l)).refusal n)).net
    go true h = h
    go false h = fresh-uncounted 0 1

-- what is known where rows were accepted: of the first row, and that the others were accepted from the net with it
record Taken (n : ℕ) (net : Net) (l : List ℕ) (ls : List (List ℕ)) : Type 0 where
  first : (row_says net (read_set_row l)).ok ≡ true
  others : (read_rows (n + 1) (row_gives net (read_set_row l)) ls).says.ok ≡ true
  all : read_rows n net (l ∷ ls) ≡ read_rows (n + 1) (row_gives net (read_set_row l)) ls

taken : (n : ℕ) (net : Net) (l : List ℕ) (ls : List (List ℕ)) → (read_rows n net (l ∷ ls)).says.ok ≡ true → Taken n net l ls
unfolding read_rows
taken n net l ls h = go (row_says net (read_set_row l)).ok refl h
  where
    go : (t : Bool) → (row_says net (read_set_row l)).ok ≡ t
        → (cond t (read_rows (n + 1) (row_gives net (read_set_row l)) ls) (refused_at (row_says net (read_set_row l)).refusal n)).says.ok ≡ true
        → Taken n net l ls
    go true e h = record { first = e; others = h; all = rw e }
    go false e h = absurd (false-not-true refl h)

pub rows_said : (n : ℕ) (net : Net) (ls : List (List ℕ)) → (read_rows n net ls).says.ok ≡ true → (read_rows n net ls).says ≡ accepted 0
unfolding read_rows
rows_said n net [] h = refl
rows_said n net (l ∷ ls) h =
    let t = taken n net l ls h in
    ap (λ (r : FileReading). r.says) t.all ∙ rows_said (n + 1) (row_gives net (read_set_row l)) ls t.others

row_start_lem : (net : Net) (row : Result SetRow Refusal) → ((row_gives net row).start ≡ net.start) × ((row_gives net row).end ≡ net.end)
row_start_lem net (Ok r) = (put_start net r.side r.activity r.set, put_end net r.side r.activity r.set)
row_start_lem net (Err k) = (refl, refl)

pub rows_ends : (n : ℕ) (net : Net) (ls : List (List ℕ)) → (read_rows n net ls).says.ok ≡ true → ((read_rows n net ls).net.start ≡ net.start) × ((read_rows n net ls).net.end ≡ net.end)
unfolding read_rows
rows_ends n net [] h = (refl, refl)
rows_ends n net (l ∷ ls) h =
    let t = taken n net l ls h in
    let f = rows_ends (n + 1) (row_gives net (read_set_row l)) ls t.others in
    let g = row_start_lem net (read_set_row l) in
    (ap (λ (r : FileReading). r.net.start) t.all ∙ f.0 ∙ g.0, ap (λ (r : FileReading). r.net.end) t.all ∙ f.1 ∙ g.1)

-- what one row that was put leaves on the sides
row-holds : (net : Net) (row : Result SetRow Refusal) → (row_says net row).ok ≡ true → (side : Side) (a m : ℕ)
    → OnSide (row_gives net row) side a m ↔ (OnSide net side a m ⊎ (row ≡ Ok (row_of_set side a m)))
row-holds net (Err k) ok side a m = absurd (false-not-true refl ok)
row-holds net (Ok r) ok side a m =
    let f = put_on_side net r.side r.activity r.set ok side a m in (
      (λ i. ⊎_elim (λ j. inl j) (λ e. inr (rw (e.0, e.1, e.2))) (f.0 i)),
      (λ w. f.1 (⊎_elim (λ j. inl j) (λ e. inr (sym (cc), sym (cc), sym (cc))) w)),
    )

-- a side holds what it held, and the sets of its rows
pub rows_hold : (n : ℕ) (net : Net) (ls : List (List ℕ)) → (read_rows n net ls).says.ok ≡ true → (side : Side) (a m : ℕ)
    → OnSide (read_rows n net ls).net side a m ↔ (OnSide net side a m ⊎ HasRow ls side a m)
unfolding read_rows
rows_hold n net [] h side a m = ((λ i. inl i), (λ w. ⊎_elim (λ i. i) (λ r. absurd (Memᴰ.not-nil r.there)) w))
rows_hold n net (l ∷ ls) h side a m =
    let t = taken n net l ls h in
    let f = rows_hold (n + 1) (row_gives net (read_set_row l)) ls t.others side a m in
    let g = row-holds net (read_set_row l) t.first side a m in (
      (λ i. ⊎_elim (λ j. ⊎_elim (λ k. inl k) (λ e. inr (record { line = l; there = Memᴰ.head refl; is_row = (row_exactly l side a m).0 e })) (g.0 j)) (λ r. inr (record { line = r.line; there = Memᴰ.tail r.there; is_row = r.is_row })) (f.0 (rw t.all at i))),
      (λ w. rw t.all (f.1 (⊎_elim (λ k. inl (g.1 (inl k))) (λ r. later g.1 r (Memᴰ.cases_cons r.there)) w))),
    )
  where
    later : ((OnSide net side a m ⊎ (read_set_row l ≡ Ok (row_of_set side a m))) → OnSide (row_gives net (read_set_row l)) side a m) → (r : HasRow (l ∷ ls) side a m) → (r.line ≡ l) ⊎ Memᴰ r.line ls
        → OnSide (row_gives net (read_set_row l)) side a m ⊎ HasRow ls side a m
    later g r (inl e) = inl (g (inr (ap read_set_row (sym e) ∙ (row_exactly r.line side a m).1 r.is_row)))
    later g r (inr u) = inr (record { line = r.line; there = u; is_row = r.is_row })

-- each line of rows that were accepted is a row
pub rows_are_rows : (n : ℕ) (net : Net) (ls : List (List ℕ)) → (read_rows n net ls).says.ok ≡ true → (line : List ℕ) → Memᴰ line ls → (side : Side) × (a : ℕ) × (m : ℕ) × IsSetRow side a m line
rows_are_rows n net [] h line i = absurd (Memᴰ.not-nil i)
rows_are_rows n net (l ∷ ls) h line i =
    let t = taken n net l ls h in
    ⊎_elim (λ e. rw e (is_row (row_said l) t.first)) (rows_are_rows (n + 1) (row_gives net (read_set_row l)) ls t.others line) (Memᴰ.cases_cons i)
  where
    is_row : {r : Result SetRow Refusal} → RowSaid l r → (row_says net r).ok ≡ true → (side : Side) × (a : ℕ) × (m : ℕ) × IsSetRow side a m l
    is_row (row_form w) e = absurd (false-not-true refl e)
    is_row (row_number f w) e = absurd (false-not-true refl e)
    is_row (set_row side a m f g r) e = (side, a, m, r)

-- ---- the lines before the rows

-- the parts of a text that is accepted
pub record FileParts (text : List ℕ) : Type 0 where
  pub start : ℕ
  pub end : ℕ
  pub start_line : List ℕ
  pub end_line : List ℕ
  pub rows : List (List ℕ)
  pub are_lines : lines text ≡ net_header ∷ start_line ∷ end_line ∷ rows
  pub start_read : read_end start_word start_line ≡ Ok start
  pub end_read : read_end end_word end_line ≡ Ok end
  pub ends : ends_ok start end ≡ true
  pub is_rows : read_net text ≡ read_rows 4 (fresh_net start end) rows
  pub fine : (read_rows 4 (fresh_net start end) rows).says.ok ≡ true

pub accepted_parts : (text : List ℕ) → (read_net text).says.ok ≡ true → FileParts text
unfolding read_net from_header from_start from_end
accepted_parts text h = size (leb (length text) net_bytes) refl
  where
    never : (n p : ℕ) → read_net text ≡ refused_at n p → ⊥
    never n p e = false-not-true (ap (λ (r : FileReading). r.says.ok) e) h

    ends : (start end : ℕ) (s e : List ℕ) (rs : List (List ℕ)) → read_end start_word s ≡ Ok start → read_end end_word e ≡ Ok end → lines text ≡ net_header ∷ s ∷ e ∷ rs
        → (t : Bool) (k n : ℕ) → eqb start end ≡ t → read_net text ≡ unless_by refused_at (not t) k n (read_rows 4 (fresh_net start end) rs) → FileParts text
    ends start end s e rs p q ls true k n d u = absurd (never k n u)
    ends start end s e rs p q ls false k n d u = record {
      start = start;
      end = end;
      start_line = s;
      end_line = e;
      rows = rs;
      are_lines = ls;
      start_read = p;
      end_read = q;
      ends = facts_ends start end (end_is start_word s start p).is_activity (end_is end_word e end q).is_activity (eqb-false start end d);
      is_rows = u;
      fine = sym (ap (λ (r : FileReading). r.says.ok) u) ∙ h;
    }

    third : (start : ℕ) (s e : List ℕ) (rs : List (List ℕ)) → read_end start_word s ≡ Ok start → lines text ≡ net_header ∷ s ∷ e ∷ rs
        → (r : Result ℕ Refusal) → read_end end_word e ≡ r → read_net text ≡ after_end start r rs → FileParts text
    third start s e rs p ls (Ok end) q u = ends start end s e rs p q ls (eqb start end) _ _ refl u
    third start s e rs p ls (Err k) q u = absurd (never _ 3 u)

    from_third : (start : ℕ) (s : List ℕ) (rs : List (List ℕ)) → read_end start_word s ≡ Ok start → lines text ≡ net_header ∷ s ∷ rs → read_net text ≡ from_end start rs → FileParts text
    from_third start s [] p ls u = absurd (never line_form 3 u)
    from_third start s (e ∷ rs) p ls u = third start s e rs p ls (read_end end_word e) refl u

    second : (s : List ℕ) (rs : List (List ℕ)) → lines text ≡ net_header ∷ s ∷ rs → (r : Result ℕ Refusal) → read_end start_word s ≡ r → read_net text ≡ after_start r rs → FileParts text
    second s rs ls (Ok start) p u = from_third start s rs p ls u
    second s rs ls (Err k) p u = absurd (never _ 2 u)

    from_second : (rs : List (List ℕ)) → lines text ≡ net_header ∷ rs → read_net text ≡ from_start rs → FileParts text
    from_second [] ls u = absurd (never line_form 2 u)
    from_second (s ∷ rs) ls u = second s rs ls (read_end start_word s) refl u

    first : (l : List ℕ) (rs : List (List ℕ)) → lines text ≡ l ∷ rs → (t : Bool) → same_bytes l net_header ≡ t → read_net text ≡ cond t (from_start rs) (refused_at line_form 1) → FileParts text
    first l rs ls true t u = from_second rs (ls ∙ ap (λ (k : List ℕ). k ∷ rs) (same_equal l net_header t)) u
    first l rs ls false t u = absurd (never line_form 1 u)

    from_first : (ls : List (List ℕ)) → lines text ≡ ls → read_net text ≡ from_header ls → FileParts text
    from_first [] ls u = absurd (never line_form 1 u)
    from_first (l ∷ rs) ls u = first l rs ls (same_bytes l net_header) refl u

    size : (t : Bool) → leb (length text) net_bytes ≡ t → FileParts text
    size true e = from_first (lines text) refl (rw e)
    size false e = absurd (never outside_limits 0 (rw e))

-- ---- a refused reading

rows-refused : (n : ℕ) (net : Net) (ls : List (List ℕ)) → (read_rows n net ls).says.ok ≡ false → (read_rows n net ls).net ≡ fresh_net 0 1
unfolding read_rows
rows-refused n net [] h = absurd (false-not-true h refl)
rows-refused n net (l ∷ ls) h = go (row_says net (read_set_row l)).ok (rows-refused (n + 1) (row_gives net (read_set_row l)) ls) h
  where
    go : (t : Bool) → ((read_rows (n + 1) (row_gives net (read_set_row l)) ls).says.ok ≡ false → (read_rows (n + 1) (row_gives net (read_set_row l)) ls).net ≡ fresh_net 0 1)
        → (cond t (read_rows (n + 1) (row_gives net (read_set_row l)) ls) (refused_at (row_says net (read_set_row l)).refusal n)).says.ok ≡ false
        → (cond t (read_rows (n + 1) (row_gives net (read_set_row l)) ls) (refused_at (row_says net (read_set_row l)).refusal n)).net ≡ fresh_net 0 1
    go true ih h = ih h
    go false ih h = refl

pub read-refused : (text : List ℕ) → (read_net text).says.ok ≡ false → (read_net text).net ≡ fresh_net 0 1
unfolding read_net from_header from_start from_end
read-refused text h = whole (leb (length text) net_bytes) (from_header (lines text)) outside_limits 0 (header (lines text)) h
  where
    Fresh : FileReading → Type 0
    Fresh r = r.says.ok ≡ false → r.net ≡ fresh_net 0 1

    whole : (t : Bool) (r : FileReading) (n p : ℕ) → Fresh r → Fresh (cond t r (refused_at n p))
    whole true r n p f = f
    whole false r n p f = λ q. refl

    third : (start : ℕ) (r : Result ℕ Refusal) (ls : List (List ℕ)) → Fresh (after_end start r ls)
    third start (Ok end) ls = equal (eqb start end) _ _
      where
        equal : (t : Bool) (k n : ℕ) → Fresh (unless_by refused_at (not t) k n (read_rows 4 (fresh_net start end) ls))
        equal true k n = λ q. refl
        equal false k n = rows-refused 4 (fresh_net start end) ls
    third start (Err k) ls = λ q. refl

    from_third : (start : ℕ) (ls : List (List ℕ)) → Fresh (from_end start ls)
    from_third start [] = λ q. refl
    from_third start (l ∷ ls) = third start (read_end end_word l) ls

    second : (r : Result ℕ Refusal) (ls : List (List ℕ)) → Fresh (after_start r ls)
    second (Ok start) ls = from_third start ls
    second (Err k) ls = λ q. refl

    from_second : (ls : List (List ℕ)) → Fresh (from_start ls)
    from_second [] = λ q. refl
    from_second (l ∷ ls) = second (read_end start_word l) ls

    header : (ls : List (List ℕ)) → Fresh (from_header ls)
    header [] = λ q. refl
    header (l ∷ ls) = whole (same_bytes l net_header) (from_start ls) line_form 1 (from_second ls)

-- ---- whatever is read

pub net_orderly : (text : List ℕ) → orderly (read_net text).net ≡ true
net_orderly text = elim (true_or_false (read_net text).says.ok) [
  | inl h ↦ let a = accepted_parts text h in rw a.is_rows (rows_orderly 4 (fresh_net a.start a.end) a.rows (fresh_orderly a.start a.end a.ends))
  | inr h ↦ rw (read-refused text h) refused-orderly
]

pub net-uncounted : (text : List ℕ) → uncounted (read_net text).net ≡ (read_net text).net
net-uncounted text = elim (true_or_false (read_net text).says.ok) [
  | inl h ↦
      let a = accepted_parts text h in
      rw a.is_rows (rows-uncounted 4 (fresh_net a.start a.end) a.rows (fresh_orderly a.start a.end a.ends) (fresh-uncounted a.start a.end))
  | inr h ↦ rw (read-refused text h) (fresh-uncounted 0 1)
]

pub ok-accepted : (text : List ℕ) → (read_net text).says.ok ≡ true → (read_net text).says ≡ accepted 0
ok-accepted text h =
    let a = accepted_parts text h in ap (λ (r : FileReading). r.says) a.is_rows ∙ rows_said 4 (fresh_net a.start a.end) a.rows a.fine

pub accepted_said : (text : List ℕ) → (read_net text).says ≡ accepted 0 → SaidBy text (read_net text).net
accepted_said text q =
    let a = accepted_parts text (ap (λ (s : Says). s.ok) q) in
    let n = ap (λ (r : FileReading). r.net) a.is_rows in
    let g = rows_ends 4 (fresh_net a.start a.end) a.rows a.fine in
    let s : (read_net text).net.start ≡ a.start = ap (λ (k : Net). k.start) n ∙ g.0 ∙ fresh_start a.start a.end in
    let e : (read_net text).net.end ≡ a.end = ap (λ (k : Net). k.end) n ∙ g.1 ∙ fresh-end a.start a.end in
    record {
      rows = a.rows;
      are_lines = rw (s, e, ← ((start_exactly a.start_line a.start).0 a.start_read).is_text, ← ((end_exactly a.end_line a.end).0 a.end_read).is_text) a.are_lines;
      sets_read = λ side b m.
          let f = rows_hold 4 (fresh_net a.start a.end) a.rows a.fine side b m in
          let k = fresh_on_side a.start a.end a.ends side b m in
          let d = same_empty (fresh_net a.start a.end) (read_net text).net side (fresh_start a.start a.end ∙ sym s) (fresh-end a.start a.end ∙ sym e) in (
            (λ i. ⊎_elim (λ j. let z = k.0 j in inl (z.0 ∙ d, z.1)) (λ r. inr r) (f.0 (rw n at i))),
            (λ u. rw n (f.1 (⊎_elim (λ z. inl (k.1 (z.0 ∙ sym d, z.1))) (λ r. inr r) u))),
          );
    }
