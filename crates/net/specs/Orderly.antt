-- An orderly net record (01, "The net and its sets"): as a test that computes, and as facts in the paper's words.
use Rattle.std.specs.Prelude.{ℕ, ◌+◌, ◌*◌, ◌<◌, ◌≤◌, ◌≡◌, Bool, false, cond, not, ◌&&◌, List, [], ◌∷◌, leb, ltb, eqb, length, get_or, take, drop}
use Rattle.obligations.specs.Limits.{activities}
use Rattle.net.specs.Limits.{sets, places}
use Rattle.net.specs.Lists.{all_below, listed, ascends_above, zeros}
use Rattle.net.specs.Sides.{masks_of, lengths_of, counts_of, empty_at, block, sets_on}
use Rattle.net.specs.declared.Net.{Net}
use Rattle.net.specs.declared.sides.Side.{Side}
use Rattle.net.specs.declared.sides.Sides.{Sides}

-- ---- the test

-- start and end are activities and differ
unfoldable pub ends_ok : ℕ → ℕ → Bool
ends_ok start end = ltb start activities && (ltb end activities && not (eqb start end))

-- 16 places hold n sets in strictly ascending order, none of them empty, and are zero past those
abbrev pub plain_block : List ℕ → ℕ → Bool
plain_block b n = leb n sets && (ascends_above 0 (take n b) && zeros (drop n b))

-- 16 places hold just the empty set, and are zero past it
abbrev pub empty_block : List ℕ → ℕ → Bool
empty_block b n = eqb n 1 && zeros b

-- the 16 places of a side with n sets are as they have to be; only: the side has to hold just the empty set
unfoldable pub block_ok : List ℕ → ℕ → Bool → Bool
block_ok b n only = cond only (empty_block b n) (plain_block b n)

-- every side of one kind is as it has to be, but for its counts, where the side of `empty` has to hold just the empty set
unfoldable pub sides_ok : Sides → ℕ → Bool
sides_ok sides empty = all_below activities (λ a. block_ok (block sides.masks a) (get_or sides.lengths a 0) (eqb a empty))

-- the places past a side's sets have count 0, on every side of one kind (02, (viii))
unfoldable pub counts_ok : Sides → Bool
counts_ok sides = all_below activities (λ a. zeros (drop (get_or sides.lengths a 0) (block sides.counts a)))

-- the sides of one kind are as they have to be, and so are their counts
unfoldable pub kind_ok : Sides → ℕ → Bool
kind_ok sides empty = sides_ok sides empty && counts_ok sides

-- the lists of one kind of side are as long as the record's arrays
abbrev pub sides_sized : Sides → Bool
sides_sized sides = eqb (length sides.masks) places && (eqb (length sides.lengths) activities && eqb (length sides.counts) places)

-- all lists are, which holds of every record in a program
unfoldable pub sized : Net → Bool
sized net = sides_sized net.inputs && sides_sized net.outputs

unfoldable pub orderly : Net → Bool
orderly net =
    sized net
    && (ends_ok net.start net.end
    && (kind_ok net.inputs net.start && kind_ok net.outputs net.end))

-- ---- the facts

-- activity a's side of a net
pub record SideOrderly (net : Net) (side : Side) (a : ℕ) : Type 0 where
  pub at_most : get_or (lengths_of net side) a 0 ≤ sets
  pub ascending : (i : ℕ) → i + 1 < get_or (lengths_of net side) a 0 → get_or (sets_on net side a) i 0 < get_or (sets_on net side a) (i + 1) 0
  pub just_empty : a ≡ empty_at net side → sets_on net side a ≡ 0 ∷ []
  pub never_empty : (a ≡ empty_at net side → ⊥) → listed 0 (sets_on net side a) ≡ false
  pub unused_zero : (i : ℕ) → get_or (lengths_of net side) a 0 ≤ i → i < sets → get_or (masks_of net side) (sets * a + i) 0 ≡ 0
  pub unused_uncounted : (i : ℕ) → get_or (lengths_of net side) a 0 ≤ i → i < sets → get_or (counts_of net side) (sets * a + i) 0 ≡ 0

pub record Orderly (net : Net) : Type 0 where
  pub masks_long : (side : Side) → length (masks_of net side) ≡ places
  pub lengths_long : (side : Side) → length (lengths_of net side) ≡ activities
  pub counts_long : (side : Side) → length (counts_of net side) ≡ places
  pub start_activity : net.start < activities
  pub end_activity : net.end < activities
  pub differ : net.start ≡ net.end → ⊥
  pub sides : (side : Side) (a : ℕ) → a < activities → SideOrderly net side a
