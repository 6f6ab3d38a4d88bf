-- What inner functions leave and lend: no sentence of the papers speaks of these.
use Rattle.std.specs.Prelude.{ℕ, ◌<◌, ◌≤◌, ◌≡◌, true, Result, Ok, Err, length, get_or}
use Rattle.std.specs.Borrow.{Lends, MutBor, Fml}
use Rattle.obligations.specs.Limits.{activities}
use Rattle.net.specs.Limits.{sets, places}
use Rattle.obligations.specs.Tests.{indicator}
use Rattle.net.specs.Refusals.{Says, accepted, refused, refusal_number}
use Rattle.net.specs.Sides.{place_on}
use Rattle.net.specs.Orderly.{sides_ok}
use Rattle.net.specs.Put.{side_says, put_sides, with_sides}
use Rattle.net.specs.declared.Net.{Net}
use Rattle.net.specs.declared.putting.Placed.{Placed}
use Rattle.net.specs.declared.refusal.Refusal.{Refusal}
use Rattle.net.specs.declared.sides.Side.{Side}
use Rattle.net.specs.declared.sides.Sides.{Sides}
use Rattle.net.specs.contracts.Net.{the_row}
use Rattle.net.specs.contracts.sides.Sides.{the_row as sides_row}

-- sides whose arrays are as long as the record's, with at most 16 sets on each
pub record SidesFit (sides : Sides) : Type 0 where
  pub masks_long : length sides.masks ≡ places
  pub lengths_long : length sides.lengths ≡ activities
  pub at_most : (a : ℕ) → a < activities → get_or sides.lengths a 0 ≤ sets

-- sides whose arrays are as long as the record's, each as it has to be but for its counts
pub record OrderlySides (sides : Sides) (empty : ℕ) : Type 0 where
  pub masks_long : length sides.masks ≡ places
  pub lengths_long : length sides.lengths ≡ activities
  pub all_ok : sides_ok sides empty ≡ true

-- what each answer of a put on a side means
abbrev pub placed_means : Result Placed Refusal → Says
placed_means (Ok p) = accepted (indicator p.new)
placed_means (Err r) = refused (refusal_number r) 0

-- what a put on activity a's side answers, with the set's place
pub record SideSaid (sides : Sides) (empty a m : ℕ) (r : Result Placed Refusal) : Type 0 where
  pub says : placed_means r ≡ side_says sides empty a m
  pub place_is : (p : Placed) → r ≡ Ok p → p.at ≡ place_on sides a m

-- and what it leaves of the sides of this kind: without the counts, and with them
pub record SideDone (sides : Sides) (empty a m : ℕ) (r : Result Placed Refusal) (sides' : Sides) : Type 0 where
  pub said : SideSaid sides empty a m r
  pub masks_are : sides'.masks ≡ (put_sides sides empty a m).masks
  pub lengths_are : sides'.lengths ≡ (put_sides sides empty a m).lengths
  pub counts_stay : sides'.counts ≡ sides.counts

pub record CountedDone (sides : Sides) (empty a m : ℕ) (r : Result Placed Refusal) (sides' : Sides) : Type 0 where
  pub said : SideSaid sides empty a m r
  pub sides_are : sides' ≡ put_sides sides empty a m

-- r lends the net's sides of one kind: what is last behind it are those sides, and the rest stays
abbrev pub LendsSides : MutBor Net → Side → MutBor Sides → Fml
LendsSides net side r = Lends the_row sides_row net r (λ sides. with_sides net.now side sides)
