-- The net gains a sequence's sets and counts their uses (01, "Learning and containment"; 02, (viii)): each X is put on its
-- activity's input side and each Y on its output side, and each position adds one to the counts of its two sets.
use Rattle.std.specs.Prelude.{ℕ, ◌+◌, ◌<◌, ◌≤◌, ◌≡◌, Bool, true, cond, ◌&&◌, List, [], ◌∷◌, ◌↔◌, ◌⊎◌, eqb, ltb, length, get_or, set}
use Rattle.obligations.specs.Limits.{activities}
use Rattle.obligations.specs.Tests.{indicator}
use Rattle.obligations.specs.Sequence.{at}
use Rattle.obligations.specs.declared.sequence.Binding.{Binding}
use Rattle.net.specs.Limits.{sets, most_uses}
use Rattle.net.specs.Lists.{AtMost}
use Rattle.net.specs.Refusals.{full_side, count_too_high}
use Rattle.net.specs.Sentences.{Sentence, whole}
use Rattle.net.specs.Sides.{sides_of, empty_at, with_counts, count_of, OnSide, place_on}
use Rattle.net.specs.Orderly.{Orderly}
use Rattle.net.specs.Put.{side_says, put_sides, with_sides}
use Rattle.net.specs.declared.Net.{Net}
use Rattle.net.specs.declared.sides.Side.{Side}
use Rattle.net.specs.declared.sides.Sides.{Sides}
use Rattle.net.specs.declared.sides.Side.TheVariants.{Input, Output}

-- ---- what a net gains, and whether it fits

-- the set that a binding has for a kind of side
abbrev pub set_for : Side → Binding → ℕ
set_for Input b = b.input
set_for Output b = b.output

-- m is a set that the sequence has for activity a's side of a kind
pub record SetOf (side : Side) (s : List Binding) (a m : ℕ) : Type 0 where
  pub position : ℕ
  pub inside : position < length s
  pub activity_is : (at s position).activity ≡ a
  pub set_is : set_for side (at s position) ≡ m

-- how many of the positions use m on activity a's side of a kind
unfoldable pub uses : Side → List Binding → ℕ → ℕ → ℕ
uses side [] a m = 0
uses side (b ∷ s) a m = indicator (eqb b.activity a && eqb (set_for side b) m) + uses side s a m

-- in how many of the positions activity a occurs
unfoldable pub occurrences_of : List Binding → ℕ → ℕ
occurrences_of [] a = 0
occurrences_of (b ∷ s) a = indicator (eqb b.activity a) + occurrences_of s a

-- the second net is the first with exactly the sequence's sets more, and with their uses counted
pub record Gains (net : Net) (s : List Binding) (after : Net) : Type 0 where
  pub same_start : after.start ≡ net.start
  pub same_end : after.end ≡ net.end
  pub is_orderly : Orderly after
  pub on_sides : (side : Side) (a m : ℕ) → OnSide after side a m ↔ (OnSide net side a m ⊎ SetOf side s a m)
  pub counted : (side : Side) (a m : ℕ) → count_of after side a m ≡ count_of net side a m + uses side s a m

-- no side would exceed 16 sets: of those on it and those that the sequence has for it there are at most so many
pub record Fits (net : Net) (s : List Binding) : Type 0 where
  pub at_most : (side : Side) (a : ℕ) → a < activities → AtMost sets (λ m. OnSide net side a m ⊎ SetOf side s a m)

-- 12: a side would exceed 16 sets
abbrev pub not_fitting : Net → List Binding → Sentence
not_fitting net s = whole full_side (Fits net s → ⊥)

-- no count of a set that the sequence uses would be raised above 4294967295
pub record Countable (net : Net) (s : List Binding) : Type 0 where
  pub at_most : (side : Side) (a m : ℕ) → SetOf side s a m → count_of net side a m + uses side s a m ≤ most_uses

-- 21: learning would raise a count above 4294967295
abbrev pub not_countable : Net → List Binding → Sentence
not_countable net s = whole count_too_high (Countable net s → ⊥)

-- ---- by puts and raises, one set after the other

-- the counts with one more at a place, and how many counts couldn't be raised: one at its top stays as it is
unfoldable pub raised_at : List ℕ → ℕ → List ℕ
raised_at counts i = cond (ltb (get_or counts i 0) most_uses) (set counts i (get_or counts i 0 + 1)) counts

unfoldable pub topped_at : List ℕ → ℕ → ℕ
topped_at counts i = cond (ltb (get_or counts i 0) most_uses) 0 1

-- the sides after m was put on activity a's and used, and how many counts couldn't be raised
abbrev pub used_sides : Sides → ℕ → ℕ → ℕ → Sides
used_sides sides empty a m =
    let put = put_sides sides empty a m in
    with_counts put (raised_at put.counts (place_on sides a m))

abbrev pub topped_counts : Sides → ℕ → ℕ → ℕ → ℕ
topped_counts sides empty a m = topped_at (put_sides sides empty a m).counts (place_on sides a m)

-- the net after m was put on one side and used, whether that put is accepted, and how many counts couldn't be raised; the net is
-- orderly and a is an activity
unfoldable pub with_use : Net → Side → ℕ → ℕ → Net
with_use net side a m = with_sides net side (used_sides (sides_of net side) (empty_at net side) a m)

unfoldable pub takes_put : Net → Side → ℕ → ℕ → Bool
takes_put net side a m = (side_says (sides_of net side) (empty_at net side) a m).ok

unfoldable pub topped_use : Net → Side → ℕ → ℕ → ℕ
topped_use net side a m = topped_counts (sides_of net side) (empty_at net side) a m

-- the same of one position's two sets
unfoldable pub with_binding : Net → Binding → Net
with_binding net b = with_use (with_use net Input b.activity b.input) Output b.activity b.output

unfoldable pub takes_binding : Net → Binding → Bool
takes_binding net b = takes_put net Input b.activity b.input && takes_put (with_use net Input b.activity b.input) Output b.activity b.output

unfoldable pub topped_binding : Net → Binding → ℕ
topped_binding net b = topped_use net Input b.activity b.input + topped_use (with_use net Input b.activity b.input) Output b.activity b.output

-- the net with all of a sequence's sets and uses
unfoldable pub gained : Net → List Binding → Net
gained net [] = net
gained net (b ∷ s) = gained (with_binding net b) s

-- every put is accepted: no side would exceed 16 sets
unfoldable pub fits : Net → List Binding → Bool
fits net [] = true
fits net (b ∷ s) = takes_binding net b && fits (with_binding net b) s

-- how many counts couldn't be raised, and whether every one could
unfoldable pub topped : Net → List Binding → ℕ
topped net [] = 0
topped net (b ∷ s) = topped_binding net b + topped (with_binding net b) s

abbrev pub countable : Net → List Binding → Bool
countable net s = eqb (topped net s) 0
