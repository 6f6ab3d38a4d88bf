-- What is read of one line, exactly: a line with two commas is its three fields joined again, and a number or a member list that is
-- read is its print. So a start row, an end row or a set's row is read of the text that is written for it and of no other, and of
-- every other line 13 or 14 is said as their sentences hold. Assumes nothing.
use Prim.Native.Nat.{ℕ, ◌^◌, ◌<◌}
use native.Mathlib.Decide.{ℕ_discrete as dec_eq}
use native.Mathlib.Omega.{arith}
use mathlib.Core.Path.{◌≡◌, refl, sym, ap, ◌∙◌}
use mathlib.Core.Bool.{true, false}
use mathlib.Core.List.{List, [], ◌∷◌}
use mathlib.Core.Logic.{◌⊎◌, inl, inr, ◌↔◌}
use lib.ListN.{length, get_or}
use Rattle.obligations.specs.Limits.{activities}
use Rattle.obligations.proofs.BoolLaws.{true_or_false, false-not-true}
use Rattle.text.specs.Bytes.{occurrences, same_bytes}
use Rattle.text.specs.Fields.{comma, split, join}
use Rattle.text.specs.Decimal.{is_empty, parse_number, print_number}
use Rattle.text.specs.Members.{highest, parse_members, print_members}
use Rattle.text.proofs.ByteLaws.{same_exactly, empty_exactly}
use Rattle.text.proofs.FieldLaws.{occurrences-split, join-split}
use Rattle.text.proofs.DecimalLaws.{parse_exactly}
use Rattle.text.proofs.MemberListLaws.{parse_members_exactly}
use Rattle.std.specs.Prelude.{Result, Ok, Err, Option, Some, None}
use Rattle.net.specs.declared.refusal.Refusal.{Refusal}
use Rattle.net.specs.declared.refusal.Refusal.TheVariants.{LineForm, NumberForm}
use Rattle.net.specs.declared.sides.Side.{Side}
use Rattle.net.specs.declared.sides.Side.TheVariants.{Input, Output}
use Rattle.netfile.specs.NetFile.{start_word, end_word, side_word, row_of_set, end_number, read_end, row_rest, read_set_row}
use Rattle.netfile.specs.Refusals.{word_of, number_in, members_in, IsEnd, IsSetRow, EndFormWrong, end_commas, end_word_wrong, end_members, ActivityWrong, RowFormWrong, row_commas, row_word, row_members, MembersWrong}
use Rattle.netfile.specs.declared.line.SetRow.{SetRow}
use Rattle.netfile.proofs.RowLaws.{end_commas as end-commas-said, end_other_word, end_members as end-members-said, end_plain, row_commas as row-commas-said, row_in, row_out, row_other_word, rest_missing, rest_no_activity, rest_no_members, rest_set, row_parts}
use Rattle.netfile.proofs.RowTextLaws.{start_back, end_back, row_back}

-- ---- three fields

three : (fs : List (List ℕ)) → length fs ≡ 3 → fs ≡ get_or fs 0 [] ∷ get_or fs 1 [] ∷ get_or fs 2 [] ∷ []
three [] h = absurd (omega arith)
three (w ∷ []) h = absurd (omega arith)
three (w ∷ a ∷ []) h = absurd (omega arith)
three (w ∷ a ∷ m ∷ []) h = refl
three (w ∷ a ∷ m ∷ x ∷ fs) h = absurd (omega arith)

module _ (line : List ℕ) (h : occurrences comma line ≡ 2) where
  fields_three : split comma line ≡ word_of line ∷ number_in line ∷ members_in line ∷ []
  fields_three = three (split comma line) ((occurrences-split comma line 2).0 h)

  joined : line ≡ join comma (word_of line ∷ number_in line ∷ members_in line ∷ [])
  joined = sym (join-split comma line) ∙ ap (join comma) fields_three

-- ---- numbers and members

not-number : (line : List ℕ) → parse_number highest (number_in line) ≡ None → ActivityWrong line
not-number line p a h e =
    let q = (parse_exactly highest a (number_in line) (omega arith)).1 (e, omega arith) in
    let z : ◌≡◌ {A = ℕ} 0 1 = cc in omega arith

not-members : (line : List ℕ) → parse_members (members_in line) ≡ None → MembersWrong line
not-members line p m h k e =
    let q = (parse_members_exactly (members_in line) m).1 (e, h, k) in
    let z : ◌≡◌ {A = ℕ} 0 1 = cc in omega arith

number_right : (line : List ℕ) (a : ℕ) → parse_number highest (number_in line) ≡ Some a → (a < activities) × (number_in line ≡ print_number a)
number_right line a p = let f = (parse_exactly highest a (number_in line) (omega arith)).0 p in (omega (arith, f.1), f.0)

-- ---- the start row and the end row

pub data EndSaid (word line : List ℕ) : Result ℕ Refusal → Type 0 where
  end_form : EndFormWrong word line → EndSaid word line (Err LineForm)
  end_no_activity : (EndFormWrong word line → ⊥) → ActivityWrong line → EndSaid word line (Err NumberForm)
  end_row : (a : ℕ) → (EndFormWrong word line → ⊥) → (ActivityWrong line → ⊥) → IsEnd word a line → EndSaid word line (Ok a)

end_right : (word line : List ℕ) → occurrences comma line ≡ 2 → word_of line ≡ word → members_in line ≡ [] → EndFormWrong word line → ⊥
end_right word line c w m (end_commas f) = f c
end_right word line c w m (end_word_wrong f) = f w
end_right word line c w m (end_members f) = f m

pub end_said : (word line : List ℕ) → EndSaid word line (read_end word line)
end_said word line = elim (dec_eq (occurrences comma line) 2) [
  | no d ↦ rw (end-commas-said line d word) (end_form (end_commas d))
  | yes c ↦ words c (true_or_false (same_bytes (word_of line) word)) (true_or_false (is_empty (members_in line)))
]
  where
    numbers : occurrences comma line ≡ 2 → word_of line ≡ word → members_in line ≡ [] → (n : Option ℕ) → parse_number highest (number_in line) ≡ n → EndSaid word line (end_number n)
    numbers c w m (Some a) p =
        let f = number_right line a p in
        end_row a (end_right word line c w m) (λ g. g a f.0 f.1) (record { is_text = joined line c ∙ rw (w, f.1, m); is_activity = f.0 })
    numbers c w m None p = end_no_activity (end_right word line c w m) (not-number line p)

    words : occurrences comma line ≡ 2 → (same_bytes (word_of line) word ≡ true) ⊎ (same_bytes (word_of line) word ≡ false)
        → (is_empty (members_in line) ≡ true) ⊎ (is_empty (members_in line) ≡ false) → EndSaid word line (read_end word line)
    words c (inr d) m =
        rw (end_other_word word line (word_of line) (number_in line) (members_in line) (fields_three line c) d)
        (end_form (end_word_wrong (λ e. false-not-true d ((same_exactly (word_of line) word).1 e))))
    words c (inl w) (inr d) =
        rw (end-members-said word line (word_of line) (number_in line) (members_in line) (fields_three line c) w d)
        (end_form (end_members (λ e. false-not-true d ((empty_exactly (members_in line)).1 e))))
    words c (inl w) (inl m) =
        rw (end_plain word line (word_of line) (number_in line) (members_in line) (fields_three line c) w m)
        (numbers c ((same_exactly (word_of line) word).0 w) ((empty_exactly (members_in line)).0 m) (parse_number highest (number_in line)) refl)

pub end_is : (word line : List ℕ) (a : ℕ) → read_end word line ≡ Ok a → IsEnd word a line
end_is word line a e = go (end_said word line) e
  where
    go : {r : Result ℕ Refusal} → EndSaid word line r → r ≡ Ok a → IsEnd word a line
    go (end_form w) q = let z : ◌≡◌ {A = ℕ} 0 1 = cc in absurd (omega arith)
    go (end_no_activity f w) q = let z : ◌≡◌ {A = ℕ} 0 1 = cc in absurd (omega arith)
    go (end_row b f g i) q = let z : b ≡ a = cc in rw z at i

pub start_exactly : (line : List ℕ) (a : ℕ) → (read_end start_word line ≡ Ok a) ↔ IsEnd start_word a line
start_exactly line a = (end_is start_word line a, (λ i. rw i.is_text (start_back a i.is_activity)))

pub end_exactly : (line : List ℕ) (a : ℕ) → (read_end end_word line ≡ Ok a) ↔ IsEnd end_word a line
end_exactly line a = (end_is end_word line a, (λ i. rw i.is_text (end_back a i.is_activity)))

-- a line that is read has nothing of 13 and 14
pub end_fine : (word line : List ℕ) (a : ℕ) → read_end word line ≡ Ok a → (EndFormWrong word line → ⊥) × (ActivityWrong line → ⊥)
end_fine word line a e = go (end_said word line) e
  where
    go : {r : Result ℕ Refusal} → EndSaid word line r → r ≡ Ok a → (EndFormWrong word line → ⊥) × (ActivityWrong line → ⊥)
    go (end_form w) q = let z : ◌≡◌ {A = ℕ} 0 1 = cc in absurd (omega arith)
    go (end_no_activity f w) q = let z : ◌≡◌ {A = ℕ} 0 1 = cc in absurd (omega arith)
    go (end_row b f g i) q = (f, g)

-- a line is the row of one activity
pub start-same : (line : List ℕ) (a b : ℕ) → IsEnd start_word a line → IsEnd start_word b line → a ≡ b
start-same line a b i j = let p = (start_exactly line a).1 i in let q = (start_exactly line b).1 j in cc

pub end_same : (line : List ℕ) (a b : ℕ) → IsEnd end_word a line → IsEnd end_word b line → a ≡ b
end_same line a b i j = let p = (end_exactly line a).1 i in let q = (end_exactly line b).1 j in cc

-- ---- a set's row

pub data RowSaid (line : List ℕ) : Result SetRow Refusal → Type 0 where
  row_form : RowFormWrong line → RowSaid line (Err LineForm)
  row_number : (RowFormWrong line → ⊥) → ActivityWrong line ⊎ MembersWrong line → RowSaid line (Err NumberForm)
  set_row : (side : Side) (a m : ℕ) → (RowFormWrong line → ⊥) → (ActivityWrong line ⊎ MembersWrong line → ⊥) → IsSetRow side a m line → RowSaid line (Ok (row_of_set side a m))

row_right : (line : List ℕ) (side : Side) → occurrences comma line ≡ 2 → word_of line ≡ side_word side → is_empty (members_in line) ≡ false → RowFormWrong line → ⊥
row_right line side c w m (row_commas f) = f c
row_right line side c w m (row_word f) = f side w
row_right line side c w m (row_members e) = false-not-true m ((empty_exactly (members_in line)).1 e)

pub row_said : (line : List ℕ) → RowSaid line (read_set_row line)
row_said line = elim (dec_eq (occurrences comma line) 2) [
  | no d ↦ rw (row-commas-said line d) (row_form (row_commas d))
  | yes c ↦ words c (true_or_false (same_bytes (word_of line) (side_word Input))) (true_or_false (same_bytes (word_of line) (side_word Output)))
]
  where
    numbers : (side : Side) → occurrences comma line ≡ 2 → word_of line ≡ side_word side → is_empty (members_in line) ≡ false
        → (n : Option ℕ) (s : Option ℕ) → parse_number highest (number_in line) ≡ n → parse_members (members_in line) ≡ s → RowSaid line (row_rest side (number_in line) (members_in line))
    numbers side c w m (Some a) (Some x) p q =
        let f = number_right line a p in
        let g = (parse_members_exactly (members_in line) x).0 q in
        rw (rest_set side (number_in line) (members_in line) m a x p q)
        (set_row side a x (row_right line side c w m) (right f.0 f.1 g.1 g.2 g.0)
        (record { is_text = joined line c ∙ rw (w, f.1, g.0); is_activity = f.0; not_empty = g.1; is_mask = g.2 }))
      where
        right : {a x : ℕ} → a < activities → number_in line ≡ print_number a → 0 < x → x < 2 ^ 32 → members_in line ≡ print_members x → ActivityWrong line ⊎ MembersWrong line → ⊥
        right {a} h e i j k (inl f) = f a h e
        right {x} h e i j k (inr f) = f x i j k
    numbers side c w m (Some a) None p q =
        rw (rest_no_members side (number_in line) (members_in line) m a p q) (row_number (row_right line side c w m) (inr (not-members line q)))
    numbers side c w m None s p q =
        rw (rest_no_activity side (number_in line) (members_in line) m p) (row_number (row_right line side c w m) (inl (not-number line p)))

    rest : (side : Side) → occurrences comma line ≡ 2 → word_of line ≡ side_word side → RowSaid line (row_rest side (number_in line) (members_in line))
    rest side c w = elim (true_or_false (is_empty (members_in line))) [
      | inl m ↦ rw (rest_missing side (number_in line) (members_in line) m) (row_form (row_members ((empty_exactly (members_in line)).0 m)))
      | inr m ↦ numbers side c w m (parse_number highest (number_in line)) (parse_members (members_in line)) refl refl
    ]

    neither : same_bytes (word_of line) (side_word Input) ≡ false → same_bytes (word_of line) (side_word Output) ≡ false → (side : Side) → word_of line ≡ side_word side → ⊥
    neither d u Input e = false-not-true d ((same_exactly (word_of line) (side_word Input)).1 e)
    neither d u Output e = false-not-true u ((same_exactly (word_of line) (side_word Output)).1 e)

    words : occurrences comma line ≡ 2 → (same_bytes (word_of line) (side_word Input) ≡ true) ⊎ (same_bytes (word_of line) (side_word Input) ≡ false)
        → (same_bytes (word_of line) (side_word Output) ≡ true) ⊎ (same_bytes (word_of line) (side_word Output) ≡ false) → RowSaid line (read_set_row line)
    words c (inl w) u = rw (row_in line (word_of line) (number_in line) (members_in line) (fields_three line c) w) (rest Input c ((same_exactly (word_of line) (side_word Input)).0 w))
    words c (inr d) (inl w) = rw (row_out line (word_of line) (number_in line) (members_in line) (fields_three line c) d w) (rest Output c ((same_exactly (word_of line) (side_word Output)).0 w))
    words c (inr d) (inr u) = rw (row_other_word line (word_of line) (number_in line) (members_in line) (fields_three line c) d u) (row_form (row_word (neither d u)))

pub row_exactly : (line : List ℕ) (side : Side) (a m : ℕ) → (read_set_row line ≡ Ok (row_of_set side a m)) ↔ IsSetRow side a m line
row_exactly line side a m = (go (row_said line), (λ i. rw i.is_text (row_back side a m i.is_activity i.not_empty i.is_mask)))
  where
    go : {r : Result SetRow Refusal} → RowSaid line r → r ≡ Ok (row_of_set side a m) → IsSetRow side a m line
    go (row_form w) q = let z : ◌≡◌ {A = ℕ} 0 1 = cc in absurd (omega arith)
    go (row_number f w) q = let z : ◌≡◌ {A = ℕ} 0 1 = cc in absurd (omega arith)
    go (set_row t b x f g i) q =
        let e = row_parts t side b a x m q in rw (e.0, e.1, e.2) at i

-- a row's line has nothing of 13 and 14
pub row_fine : (line : List ℕ) (side : Side) (a m : ℕ) → IsSetRow side a m line → (RowFormWrong line → ⊥) × (ActivityWrong line ⊎ MembersWrong line → ⊥)
row_fine line side a m i = go (row_said line) ((row_exactly line side a m).1 i)
  where
    go : {r : Result SetRow Refusal} → RowSaid line r → r ≡ Ok (row_of_set side a m) → (RowFormWrong line → ⊥) × (ActivityWrong line ⊎ MembersWrong line → ⊥)
    go (row_form w) q = let z : ◌≡◌ {A = ℕ} 0 1 = cc in absurd (omega arith)
    go (row_number f w) q = let z : ◌≡◌ {A = ℕ} 0 1 = cc in absurd (omega arith)
    go (set_row t b x f g j) q = (f, g)

-- a line is the row of one set
pub row_same : (line : List ℕ) (s t : Side) (a b m x : ℕ) → IsSetRow s a m line → IsSetRow t b x line → (s ≡ t) × (a ≡ b) × (m ≡ x)
row_same line s t a b m x i j = row_parts s t a b m x (sym ((row_exactly line s a m).1 i) ∙ (row_exactly line t b x).1 j)
