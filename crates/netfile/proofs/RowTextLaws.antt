-- Laws of reading what was written: a line that was written is read as what it was written for, and the lines of a net's
-- text are its lines. Assumes nothing.
use Prim.Native.Nat.{ℕ, zero, suc, ◌+◌, ◌^◌, ◌<◌, ◌≤◌}
use native.Mathlib.Decide.{ℕ_discrete as dec_eq}
use native.Mathlib.Omega.{arith}
use mathlib.Core.Path.{◌≡◌, refl, sym, ap, ◌∙◌}
use mathlib.Core.Bool.{true}
use mathlib.Core.Logic.{⊎_elim}
use mathlib.Core.List.Memᴰ
use mathlib.Core.List.{List, [], ◌∷◌, ◌++◌, Memᴰ}
use Rattle.obligations.specs.Limits.{activities}
use Rattle.obligations.proofs.BoolLaws.{false-not-true}
use Rattle.text.specs.Bytes.{occurrences}
use Rattle.text.specs.Lines.{cr, lines}
use Rattle.text.specs.Fields.{comma, split, join}
use Rattle.text.specs.Decimal.{print_number}
use Rattle.text.specs.Members.{highest, print_members}
use Rattle.text.proofs.ByteLaws.{occurrences-append}
use Rattle.text.proofs.LineLaws.{lines-unlines}
use Rattle.text.proofs.FieldLaws.{split-join}
use Rattle.text.proofs.DecimalLaws.{parse_print, number_free}
use Rattle.text.proofs.MemberListLaws.{parse_print_members, members_free, members-filled}
use Rattle.net.specs.Lists.{listed}
use Rattle.net.specs.Sides.{sets_on, OnSide}
use Rattle.net.specs.declared.Net.{Net}
use Rattle.std.specs.Prelude.{Ok}
use Rattle.net.specs.declared.sides.Side.{Side}
use Rattle.net.specs.declared.sides.Side.TheVariants.{Input, Output}
use Rattle.net.proofs.ListLaws.{none_listed, listed_one, one_listed, listed-first, listed-later, head_or_later}
use Rattle.netfile.specs.NetFile.{start_word, end_word, side_word, row_of_set, end_number, read_end, read_set_row, end_text, set_row_text, set_lines, sets_lines, side_lines, activity_lines, head_lines, net_lines, net_text}
use Rattle.netfile.proofs.RowLaws.{end_plain, row_in, row_out, rest_set}
use Rattle.netfile.proofs.TextLaws.{set_none, set_row}

-- ---- three fields joined by commas

module _ (x y z : List ℕ) where
  -- without a comma in them they are split again
  fields_back : occurrences comma x ≡ 0 → occurrences comma y ≡ 0 → occurrences comma z ≡ 0 → split comma (join comma (x ∷ y ∷ z ∷ [])) ≡ x ∷ y ∷ z ∷ []
  fields_back p q r = split-join comma x (y ∷ z ∷ []) (λ f m. ⊎_elim (λ e. ap (occurrences comma) e ∙ p) (λ n. ⊎_elim (λ e. ap (occurrences comma) e ∙ q) (λ o. ap (occurrences comma) (Memᴰ.eq_of_singleton o) ∙ r) (Memᴰ.cases_cons n)) (Memᴰ.cases_cons m))

  -- without a CR in them the line has none
  fields_free : occurrences cr x ≡ 0 → occurrences cr y ≡ 0 → occurrences cr z ≡ 0 → occurrences cr (join comma (x ∷ y ∷ z ∷ [])) ≡ 0
  fields_free p q r = simp occurrences-append (omega arith)

word_no_comma : (side : Side) → occurrences comma (side_word side) ≡ 0
word_no_comma Input = refl
word_no_comma Output = refl

word_free : (side : Side) → occurrences cr (side_word side) ≡ 0
word_free Input = refl
word_free Output = refl

-- ---- the start row and the end row

module _ (a : ℕ) (h : a < activities) where
  pub start_back : read_end start_word (end_text start_word a) ≡ Ok a
  start_back =
      end_plain start_word (end_text start_word a) start_word (print_number a) [] (fields_back start_word (print_number a) [] refl (number_free comma a (omega arith)) refl) refl refl
      ∙ ap end_number (parse_print highest a (omega arith) (omega arith))

  pub end_back : read_end end_word (end_text end_word a) ≡ Ok a
  end_back =
      end_plain end_word (end_text end_word a) end_word (print_number a) [] (fields_back end_word (print_number a) [] refl (number_free comma a (omega arith)) refl) refl refl
      ∙ ap end_number (parse_print highest a (omega arith) (omega arith))

-- ---- a set's row

pub row_back : (side : Side) (a m : ℕ) → a < activities → 0 < m → m < 2 ^ 32 → read_set_row (set_row_text side a m) ≡ Ok (row_of_set side a m)
row_back side a m h k u = word side (fields_back (side_word side) (print_number a) (print_members m) (word_no_comma side) (number_free comma a (omega arith)) (members_free comma m (omega arith) (λ e. omega arith)))
  where
    word : (t : Side) → split comma (set_row_text t a m) ≡ side_word t ∷ print_number a ∷ print_members m ∷ [] → read_set_row (set_row_text t a m) ≡ Ok (row_of_set t a m)
    word Input f =
        row_in (set_row_text Input a m) (side_word Input) (print_number a) (print_members m) f refl
        ∙ rest_set Input (print_number a) (print_members m) (members-filled (print_members m) m (parse_print_members m k u)) a m (parse_print highest a (omega arith) (omega arith)) (parse_print_members m k u)
    word Output f =
        row_out (set_row_text Output a m) (side_word Output) (print_number a) (print_members m) f refl refl
        ∙ rest_set Output (print_number a) (print_members m) (members-filled (print_members m) m (parse_print_members m k u)) a m (parse_print highest a (omega arith) (omega arith)) (parse_print_members m k u)

-- ---- the rows of a net

-- a line is the row of a set that is listed
record SetRow (side : Side) (a : ℕ) (l line : List ℕ) : Type 0 where
  set : ℕ
  some : 0 < set
  there : listed set l ≡ true
  is_text : line ≡ set_row_text side a set

module _ (side : Side) (a : ℕ) where
  set_row_of : (m : ℕ) (line : List ℕ) → Memᴰ line (set_lines side a m) → SetRow side a (m ∷ []) line
  set_row_of m line i = elim (dec_eq m 0) [
    | yes e ↦ absurd (Memᴰ.not-nil (rw (set_none side a m e) at i))
    | no d ↦ record { set = m; some = omega arith; there = one_listed m; is_text = Memᴰ.eq_of_singleton (rw (set_row side a m d) at i) }
  ]

  -- each row is of a set of the list, and each set that is not empty has its row
  sets_row_of : (l line : List ℕ) → Memᴰ line (sets_lines side a l) → SetRow side a l line
  unfolding sets_lines
  sets_row_of [] line i = absurd (Memᴰ.not-nil i)
  sets_row_of (m ∷ ms) line i = ⊎_elim (λ j. first (set_row_of m line j)) (λ j. later (sets_row_of ms line j)) (Memᴰ.append_cases (set_lines side a m) i)
    where
      first : SetRow side a (m ∷ []) line → SetRow side a (m ∷ ms) line
      first r = record { set = r.set; some = r.some; there = rw (listed_one r.set m r.there) (listed-first m ms); is_text = r.is_text }

      later : SetRow side a ms line → SetRow side a (m ∷ ms) line
      later r = record { set = r.set; some = r.some; there = listed-later r.set m ms r.there; is_text = r.is_text }

  sets_row : (l : List ℕ) (m : ℕ) → listed m l ≡ true → 0 < m → Memᴰ (set_row_text side a m) (sets_lines side a l)
  unfolding sets_lines
  sets_row [] m h k = absurd (false-not-true (none_listed m) h)
  sets_row (x ∷ xs) m h k =
      ⊎_elim (λ e. Memᴰ.append_right (set_lines side a x) (sets_row xs m e k)) (λ e. first (sym e))
      (head_or_later m x xs h)
    where
      first : x ≡ m → Memᴰ (set_row_text side a m) (set_lines side a x ++ sets_lines side a xs)
      first e = rw (e, set_row side a m (λ d. omega arith)) (Memᴰ.head refl)

-- a line is the row of a set of the net
pub record RowOf (net : Net) (line : List ℕ) : Type 0 where
  pub side : Side
  pub activity : ℕ
  pub set : ℕ
  pub low : activity < activities
  pub some : 0 < set
  pub on : OnSide net side activity set
  pub is_text : line ≡ set_row_text side activity set

row_of_side : (net : Net) (side : Side) (a : ℕ) (line : List ℕ) → a < activities → Memᴰ line (side_lines net side a) → RowOf net line
row_of_side net side a line h i =
    let r = sets_row_of side a (sets_on net side a) line i in
    record { side = side; activity = a; set = r.set; low = h; some = r.some; on = r.there; is_text = r.is_text }

rows_of : (net : Net) (n a : ℕ) (line : List ℕ) → a + n ≤ activities → Memᴰ line (activity_lines net n a) → RowOf net line
unfolding activity_lines
rows_of net zero a line h i = absurd (Memᴰ.not-nil i)
rows_of net (suc n) a line h i =
    ⊎_elim (λ j. row_of_side net Input a line (omega arith) j)
    (λ j. ⊎_elim (λ k. row_of_side net Output a line (omega arith) k) (λ k. rows_of net n (a + 1) line (omega arith) k) (Memᴰ.append_cases (side_lines net Output a) j))
    (Memᴰ.append_cases (side_lines net Input a) i)

rows_to : (net : Net) (n a : ℕ) (side : Side) (b m : ℕ) → a ≤ b → b < a + n → OnSide net side b m → 0 < m → Memᴰ (set_row_text side b m) (activity_lines net n a)
unfolding activity_lines
rows_to net zero a side b m h k on u = absurd (omega arith)
rows_to net (suc n) a side b m h k on u = elim (dec_eq b a) [
  | yes e ↦ rw e (here side (rw e at (sets_row side b (sets_on net side b) m on u)))
  | no d ↦ Memᴰ.append_right (side_lines net Input a) (Memᴰ.append_right (side_lines net Output a) (rows_to net n (a + 1) side b m (omega arith) (omega arith) on u))
]
  where
    here : (t : Side) → Memᴰ (set_row_text t a m) (side_lines net t a) → Memᴰ (set_row_text t a m) (side_lines net Input a ++ (side_lines net Output a ++ activity_lines net n (a + 1)))
    here Input i = Memᴰ.append_left (side_lines net Output a ++ activity_lines net n (a + 1)) i
    here Output i = Memᴰ.append_right (side_lines net Input a) (Memᴰ.append_left (activity_lines net n (a + 1)) i)

module _ (net : Net) where
  pub net_row_of : (line : List ℕ) → Memᴰ line (activity_lines net activities 0) → RowOf net line
  net_row_of line i = rows_of net activities 0 line (omega arith) i

  pub net_row : (side : Side) (a m : ℕ) → a < activities → OnSide net side a m → 0 < m → Memᴰ (set_row_text side a m) (activity_lines net activities 0)
  net_row side a m h on k = rows_to net activities 0 side a m (omega arith) (omega arith) on k

  -- ---- the lines of the text

  -- no line of the text has a CR
  lines_free : (line : List ℕ) → Memᴰ line (net_lines net) → occurrences cr line ≡ 0
  unfolding net_lines head_lines
  lines_free line i = ⊎_elim head (λ j. row (net_row_of line j)) (Memᴰ.append_cases (head_lines net.start net.end) i)
    where
      end_free : (word : List ℕ) (a : ℕ) → occurrences cr word ≡ 0 → occurrences cr (end_text word a) ≡ 0
      end_free word a p = fields_free word (print_number a) [] p (number_free cr a (omega arith)) refl

      row : RowOf net line → occurrences cr line ≡ 0
      row r =
          ap (occurrences cr) r.is_text
          ∙ fields_free (side_word r.side) (print_number r.activity) (print_members r.set) (word_free r.side) (number_free cr r.activity (omega arith)) (members_free cr r.set (omega arith) (λ e. omega arith))

      head : Memᴰ line (head_lines net.start net.end) → occurrences cr line ≡ 0
      head j =
          ⊎_elim (λ e. ap (occurrences cr) e)
          (λ k. ⊎_elim (λ e. ap (occurrences cr) e ∙ end_free start_word net.start refl) (λ o. ap (occurrences cr) (Memᴰ.eq_of_singleton o) ∙ end_free end_word net.end refl) (Memᴰ.cases_cons k))
          (Memᴰ.cases_cons j)

  pub text_lines : lines (net_text net) ≡ net_lines net
  unfolding net_text
  text_lines = lines-unlines (net_lines net) lines_free
