-- Laws of the text that is written: its pieces in the order in which they are stored, what is left of it after each, and
-- its length, which is at most 131,072: a row has at most 105 bytes, a side 16 rows, a net 64 sides. Assumes nothing.
use Prim.Native.Nat.{ℕ, zero, suc, ◌+◌, ◌-◌, ◌*◌, ◌≤◌, ◌<◌}
use mathlib.Core.Path.{◌≡◌}
use mathlib.Core.Bool.{true}
use mathlib.Core.List.{List, [], ◌∷◌, ◌++◌, append_assoc, append-nil}
use native.Mathlib.Decide.{ℕ_discrete as dec_eq}
use native.Mathlib.Numerals.{add-one}
use native.Mathlib.Omega.{arith}
use borrow.Author.Tests.{eq-eqb, ne_eqb}
use lib.ListN.{length, get_or, drop, length-append, drop_of_length-le}
use lib.Seq.{drop-cons}
use Rattle.obligations.specs.Limits.{activities}
use Rattle.text.specs.Lines.{cr, lf, unlines}
use Rattle.text.specs.Fields.{comma}
use Rattle.text.specs.Decimal.{print_number}
use Rattle.text.specs.Members.{print_members}
use Rattle.text.proofs.LineLaws.{unlines_append}
use Rattle.text.proofs.DigitLaws.{number_below_100}
use Rattle.text.proofs.MemberListLaws.{members_short}
use Rattle.net.specs.Sides.{sets_on}
use Rattle.net.specs.Orderly.{orderly}
use Rattle.net.specs.declared.Net.{Net}
use Rattle.net.specs.declared.sides.Side.{Side}
use Rattle.net.specs.declared.sides.Side.TheVariants.{Input, Output}
use Rattle.net.proofs.OrderlyLaws.{orderly_ends, ends_facts, orderly_at_most, sets_length}
use Rattle.netfile.specs.Limits.{net_bytes}
use Rattle.netfile.specs.NetFile.{net_header, start_word, end_word, side_word, set_row_text, set_lines, sets_lines, side_lines, activity_lines, head_lines, net_lines, net_text}

-- ---- the first three lines

abbrev pub to_start : List ℕ
to_start = net_header ++ (cr ∷ lf ∷ (start_word ++ (comma ∷ [])))

abbrev pub to_end : List ℕ
to_end = comma ∷ cr ∷ lf ∷ (end_word ++ (comma ∷ []))

pub head_bytes : (start end : ℕ) → unlines (head_lines start end) ≡ to_start ++ (print_number start ++ (to_end ++ (print_number end ++ (comma ∷ cr ∷ lf ∷ []))))
unfolding head_lines
head_bytes start end = simp append_assoc

head_width : (start end : ℕ) → length (unlines (head_lines start end)) ≡ 39 + length (print_number start) + length (print_number end)
head_width start end = rw (head_bytes start end) (simp length-append (omega arith))

-- ---- a set's row

module _ (side : Side) (a m : ℕ) where
  pub set_none : m ≡ 0 → set_lines side a m ≡ []
  unfolding set_lines
  set_none e = rw (eq-eqb m 0 e)

  pub set_row : (m ≡ 0 → ⊥) → set_lines side a m ≡ set_row_text side a m ∷ []
  unfolding set_lines
  set_row d = rw (ne_eqb m 0 d)

  pub set_bytes : (m ≡ 0 → ⊥) → unlines (set_lines side a m) ≡ side_word side ++ ((comma ∷ []) ++ (print_number a ++ ((comma ∷ []) ++ (print_members m ++ (cr ∷ lf ∷ [])))))
  set_bytes d = rw (set_row d) (simp (append_assoc, append-nil))

  set_width : (m ≡ 0 → ⊥) → length (unlines (set_lines side a m)) ≡ length (side_word side) + 1 + length (print_number a) + 1 + length (print_members m) + 2
  set_width d = rw (set_bytes d) (simp length-append (omega arith))

word_short : (side : Side) → length (side_word side) ≤ 3
word_short Input = omega arith
word_short Output = omega arith

set_short : (side : Side) (a m : ℕ) → a < activities → length (unlines (set_lines side a m)) ≤ 105
set_short side a m h = elim (dec_eq m 0) [
  | yes e ↦ rw (set_none side a m e) (omega arith)
  | no d ↦ omega (arith, set_width side a m d, word_short side, number_below_100 a (omega arith), members_short m)
]

-- ---- the rows of a side

pub sets-step : (side : Side) (a i : ℕ) (l : List ℕ) → i < length l
    → unlines (sets_lines side a (drop i l)) ≡ unlines (set_lines side a (get_or l i 0)) ++ unlines (sets_lines side a (drop (i + 1) l))
unfolding sets_lines
sets-step side a i l h = rw (add-one, drop-cons l i 0 h) (unlines_append (set_lines side a (get_or l i 0)) (sets_lines side a (drop (suc i) l)))

pub sets_none : (side : Side) (a i : ℕ) (l : List ℕ) → length l ≤ i → unlines (sets_lines side a (drop i l)) ≡ []
unfolding sets_lines
sets_none side a i l h = rw (drop_of_length-le l h)

sets_short : (side : Side) (a : ℕ) (l : List ℕ) → a < activities → length (unlines (sets_lines side a l)) ≤ 105 * length l
unfolding sets_lines
sets_short side a [] h = omega arith
sets_short side a (m ∷ ms) h =
    rw (unlines_append (set_lines side a m) (sets_lines side a ms), length-append)
    (omega (arith, set_short side a m h, sets_short side a ms h))

-- ---- the rows of the activities

pub activities-step : (net : Net) (a : ℕ) → a < activities
    → unlines (activity_lines net (activities - a) a)
    ≡ unlines (side_lines net Input a) ++ (unlines (side_lines net Output a) ++ unlines (activity_lines net (activities - (a + 1)) (a + 1)))
unfolding activity_lines
activities-step net a h =
    let e : activities - a ≡ suc (activities - (a + 1)) = omega arith in
    rw (
      e,
      unlines_append (side_lines net Input a) (side_lines net Output a ++ activity_lines net (activities - (a + 1)) (a + 1)),
      unlines_append (side_lines net Output a) (activity_lines net (activities - (a + 1)) (a + 1)),
    )

pub activities_none : (net : Net) (a : ℕ) → activities ≤ a → unlines (activity_lines net (activities - a) a) ≡ []
unfolding activity_lines
activities_none net a h = let e : activities - a ≡ 0 = omega arith in rw e

-- ---- the whole text

pub net_text_lem : (net : Net) → net_text net ≡ unlines (head_lines net.start net.end) ++ unlines (activity_lines net activities 0)
unfolding net_text net_lines
net_text_lem net = unlines_append (head_lines net.start net.end) (activity_lines net activities 0)

module _ (net : Net) (o : orderly net ≡ true) where
  side_short : (side : Side) (a : ℕ) → a < activities → length (unlines (side_lines net side a)) ≤ 1680
  side_short side a h = omega (arith, sets_short side a (sets_on net side a) h, sets_length net o side a h, orderly_at_most net o side a h)

  activities_short : (n a : ℕ) → a + n ≤ activities → length (unlines (activity_lines net n a)) ≤ 3360 * n
  unfolding activity_lines
  activities_short zero a h = omega arith
  activities_short (suc n) a h =
      rw (
        unlines_append (side_lines net Input a) (side_lines net Output a ++ activity_lines net n (a + 1)),
        unlines_append (side_lines net Output a) (activity_lines net n (a + 1)),
        length-append,
        length-append,
      )
      (omega (arith, side_short Input a (omega arith), side_short Output a (omega arith), activities_short n (a + 1) (omega arith)))

  rows_short : length (unlines (activity_lines net activities 0)) ≤ 107520
  rows_short = activities_short activities 0 (omega arith)

  pub net_short : length (net_text net) ≤ net_bytes
  net_short =
      let f = ends_facts net.start net.end (orderly_ends net o) in
      rw (net_text_lem net, length-append)
      (omega (arith, head_width net.start net.end, number_below_100 net.start (omega arith), number_below_100 net.end (omega arith), rows_short))
