-- An orderly record is determined by its start and end, by which sets are on which side, and by how often each was used: two that
-- agree in these are equal, word for word. The sets of a side ascend, so the list is known by its elements, and the counts beside it
-- by the count of each; every place behind them is 0, of masks and of counts alike. Assumes nothing.
use Prim.Native.Nat.{ℕ, ◌+◌, ◌*◌, ◌/◌, ◌%◌, ◌<◌, ◌≤◌}
use native.Mathlib.Decide.{dec_lt}
use native.Mathlib.Omega.{arith}
use mathlib.Core.Path.{◌≡◌, sym, ap, ◌∙◌}
use mathlib.Core.Bool.{true}
use mathlib.Core.List.{List}
use lib.ListN.{length, drop, get_or, length-take, get_or-eq_default}
use lib.Seq.{ext_get_or}
use Rattle.obligations.specs.Limits.{activities}
use Rattle.net.specs.Limits.{sets, places}
use Rattle.net.specs.Sides.{sides_of, masks_of, lengths_of, counts_of, empty_at, SameButCounts, first_of, sets_on, counts_on, count_in, OnSide, count_of}
use Rattle.net.specs.Orderly.{orderly}
use Rattle.net.specs.Statements.{Alike}
use Rattle.net.specs.declared.Net.{Net}
use Rattle.net.specs.declared.sides.Side.{Side}
use Rattle.net.specs.declared.sides.Side.TheVariants.{Input, Output}
use Rattle.net.proofs.PlaceLaws.{Ascending, counts_determined}
use Rattle.net.proofs.SideLaws.{same_sides, first-at, length-first, side_ascending}
use Rattle.net.proofs.OrderlyLaws.{orderly_sides, orderly_counts, orderly_side, orderly_at_most, sets_length}
use Rattle.net.proofs.AscendingLaws.{ascending-same}

-- ---- an array with 16 places for each activity

-- it is 0 behind the first ones, of which there are as many as the length says
abbrev ZeroBehind : List ℕ → List ℕ → Type 0
ZeroBehind array lengths = (a i : ℕ) → a < activities → get_or lengths a 0 ≤ i → i < sets → get_or array (sets * a + i) 0 ≡ 0

place_at : (array lengths : List ℕ) → ZeroBehind array lengths → (a i : ℕ) → a < activities → i < sets → get_or array (sets * a + i) 0 ≡ get_or (first_of array a (get_or lengths a 0)) i 0
place_at array lengths z a i h k = elim (dec_lt i (get_or lengths a 0)) [
  | yes l ↦ sym (first-at array a _ i l)
  | no l ↦ z a i h (omega arith) k ∙ sym (get_or-eq_default (first_of array a (get_or lengths a 0)) 0 {n = i} (omega (arith, length-take (get_or lengths a 0) (drop (sets * a) array))))
]

-- such arrays with the same first places are the same
same_array : (x y n m : List ℕ) → length x ≡ places → length y ≡ places → ZeroBehind x n → ZeroBehind y m
    → ((a : ℕ) → a < activities → first_of x a (get_or n a 0) ≡ first_of y a (get_or m a 0)) → x ≡ y
same_array x y n m lx ly zx zy same =
    ext_get_or 0 x y (lx ∙ sym ly)
    (λ i l.
    let e : sets * (i / sets) + i % sets ≡ i = omega arith in
    let a : i / sets < activities = omega (arith, lx) in
    let k : i % sets < sets = omega arith in
    sym (ap (λ (j : ℕ). get_or x j 0) e)
    ∙ place_at x n zx (i / sets) (i % sets) a k
    ∙ ap (λ (r : List ℕ). get_or r (i % sets) 0) (same (i / sets) a)
    ∙ sym (place_at y m zy (i / sets) (i % sets) a k)
    ∙ ap (λ (j : ℕ). get_or y j 0) e)

-- ---- the arrays of two orderly nets whose sides are the same lists

module _ (x y : Net) (o : orderly x ≡ true) (q : orderly y ≡ true) (same : (side : Side) (a : ℕ) → a < activities → sets_on x side a ≡ sets_on y side a) where
  same_lengths : (side : Side) → lengths_of x side ≡ lengths_of y side
  same_lengths side =
      ext_get_or 0 (lengths_of x side) (lengths_of y side) ((orderly_sides x o side).lengths_long ∙ sym (orderly_sides y q side).lengths_long)
      (λ i l. let h : i < activities = omega (arith, (orderly_sides x o side).lengths_long) in sym (sets_length x o side i h) ∙ ap length (same side i h) ∙ sets_length y q side i h)

  same_masks : (side : Side) → masks_of x side ≡ masks_of y side
  same_masks side =
      same_array (masks_of x side) (masks_of y side) (lengths_of x side) (lengths_of y side) (orderly_sides x o side).masks_long (orderly_sides y q side).masks_long
      (λ a i h. (orderly_side x o side a h).unused_zero i)
      (λ a i h. (orderly_side y q side a h).unused_zero i)
      (same side)

  pub same_but_counts : x.start ≡ y.start → x.end ≡ y.end → SameButCounts x y
  same_but_counts s e = rw (s, e, same_masks Input, same_masks Output, same_lengths Input, same_lengths Output)

  module _ (counted : (side : Side) (a m : ℕ) → count_of x side a m ≡ count_of y side a m) where
    same_beside : (side : Side) (a : ℕ) → a < activities → counts_on x side a ≡ counts_on y side a
    same_beside side a h =
        counts_determined (sets_on x side a) (counts_on x side a) (counts_on y side a) (side_ascending (sides_of x side) (empty_at x side) (orderly_sides x o side) a h)
        (beside x o ∙ sym (sets_length x o side a h))
        (beside y q ∙ sym (sets_length y q side a h) ∙ sym (ap length (same side a h)))
        (λ m. counted side a m ∙ ap (λ (l : List ℕ). count_in m l (counts_on y side a)) (sym (same side a h)))
      where
        beside : (net : Net) → orderly net ≡ true → length (counts_on net side a) ≡ get_or (lengths_of net side) a 0
        beside net k = length-first (counts_of net side) a _ (orderly_counts net k side).counts_long h (orderly_at_most net k side a h)

    same_counts : (side : Side) → counts_of x side ≡ counts_of y side
    same_counts side =
        same_array (counts_of x side) (counts_of y side) (lengths_of x side) (lengths_of y side) (orderly_counts x o side).counts_long (orderly_counts y q side).counts_long
        (λ a i h. (orderly_side x o side a h).unused_uncounted i)
        (λ a i h. (orderly_side y q side a h).unused_uncounted i)
        (same_beside side)

    same_nets : x.start ≡ y.start → x.end ≡ y.end → x ≡ y
    same_nets s e = λ j. record { start = s j; end = e j; inputs = sides Input j; outputs = sides Output j }
      where
        sides : (side : Side) → sides_of x side ≡ sides_of y side
        sides side = same_sides (sides_of x side) (sides_of y side) (same_masks side) (same_lengths side) (same_counts side)

-- ---- two orderly nets with the same sets on each side

-- their sides are the same lists
pub same_lists : (x y : Net) → orderly x ≡ true → orderly y ≡ true → (side : Side) (a : ℕ) → a < activities
    → ((m : ℕ) → OnSide x side a m → OnSide y side a m) → ((m : ℕ) → OnSide y side a m → OnSide x side a m) → sets_on x side a ≡ sets_on y side a
same_lists x y o q side a h f g = ascending-same (sets_on x side a) (sets_on y side a) (ascending x o) (ascending y q) f g
  where
    ascending : (net : Net) → orderly net ≡ true → Ascending (sets_on net side a)
    ascending net k = side_ascending (sides_of net side) (empty_at net side) (orderly_sides net k side) a h

pub alike_same : (x y : Net) → orderly x ≡ true → orderly y ≡ true → Alike x y → x ≡ y
alike_same x y o q f =
    same_nets x y o q (λ side a h. same_lists x y o q side a h (λ m. (f.same_sets side a m).0) (λ m. (f.same_sets side a m).1)) f.same_counts f.same_start f.same_end
