-- Put: one set added to one side (01, "The net and its sets").
use Rattle.std.specs.Prelude.{ℕ, ◌*◌, ◌+◌, ◌≤◌, ◌≡◌, Bool, cond, not, ◌&&◌, ◌||◌, List, [], ◌∷◌, ◌⊎◌, Result, eqb, ltb, get_or, set}
use Rattle.obligations.specs.Limits.{activities}
use Rattle.obligations.specs.Tests.{indicator}
use Rattle.net.specs.Limits.{sets}
use Rattle.net.specs.Refusals.{Says, means, accepted, disorderly, no_activity, misplaced_set, full_side}
use Rattle.net.specs.Sentences.{Sentence, whole}
use Rattle.net.specs.Chains.{unless}
use Rattle.net.specs.Lists.{listed, place_in, insert_at, insert, splice, AtMost}
use Rattle.net.specs.Sides.{sides_of, empty_at, sets_in, counts_in, OnSide}
use Rattle.net.specs.Orderly.{orderly}
use Rattle.net.specs.Common.{not_orderly}
use Rattle.net.specs.declared.Net.{Net}
use Rattle.net.specs.declared.sides.Side.{Side}
use Rattle.net.specs.declared.sides.Side.TheVariants.{Input, Output}
use Rattle.net.specs.declared.sides.Sides.{Sides}
use Rattle.net.specs.declared.refusal.Refused.{Refused}
use Rattle.net.specs.declared.Returned.{Returned}

-- what each answer means: an accepted put's value is the number of new sets
abbrev pub put_means : Result Bool Refused → Says
put_means answer = means indicator answer

-- ---- the refusals

-- 5: the empty set on a side that may not hold it, or another on a side that must hold only it
abbrev pub Misplaced : Net → Side → ℕ → ℕ → Type 0
Misplaced net side a m = ((m ≡ 0) × (a ≡ empty_at net side → ⊥)) ⊎ ((m ≡ 0 → ⊥) × (a ≡ empty_at net side))

-- 12: the side would exceed 16 sets
abbrev pub Exceeds : Net → Side → ℕ → ℕ → Type 0
Exceeds net side a m = AtMost sets (λ x. OnSide net side a x ⊎ (x ≡ m)) → ⊥

abbrev pub put_refusals : Net → Side → ℕ → ℕ → List Sentence
put_refusals net side a m =
    not_orderly net
    ∷ whole no_activity (activities ≤ a)
    ∷ whole misplaced_set (Misplaced net side a m)
    ∷ whole full_side (Exceeds net side a m)
    ∷ []

-- ---- what is said

-- 5 as a test; `empty` is the activity whose side holds just the empty set
unfoldable pub misplaced : ℕ → ℕ → ℕ → Bool
misplaced empty a m = cond (eqb m 0) (not (eqb a empty)) (eqb a empty)

-- what is said of a set m for activity a's side
unfoldable pub side_says : Sides → ℕ → ℕ → ℕ → Says
side_says sides empty a m =
    let there = listed m (sets_in sides a) in
    unless (not (misplaced empty a m)) misplaced_set
    (unless (there || not (eqb (get_or sides.lengths a 0) sets)) full_side
    (accepted (indicator (not there))))

unfoldable pub put_says : Net → Side → ℕ → ℕ → Says
put_says net side a m =
    unless (orderly net) disorderly
    (unless (ltb a activities) no_activity
    (side_says (sides_of net side) (empty_at net side) a m))

-- the call was accepted and its set is new
unfoldable pub grows : Says → Bool
grows s = s.ok && eqb s.value 1

-- the sides with m, which is new, on activity a's: its count is 0, and those behind it move along with their sets (02, (viii))
abbrev pub grown_sides : Sides → ℕ → ℕ → Sides
grown_sides sides a m = record {
  masks = splice sides.masks (sets * a) (insert m (sets_in sides a));
  lengths = set sides.lengths a (get_or sides.lengths a 0 + 1);
  counts = splice sides.counts (sets * a) (insert_at (place_in m (sets_in sides a)) 0 (counts_in sides a));
}

-- the sides after m was put on activity a's: with it if it is accepted and new, else those given
unfoldable pub put_sides : Sides → ℕ → ℕ → ℕ → Sides
put_sides sides empty a m = cond (grows (side_says sides empty a m)) (grown_sides sides a m) sides

-- the net with other sides of one kind
abbrev pub with_sides : Net → Side → Sides → Net
with_sides net Input sides = record { start = net.start; end = net.end; inputs = sides; outputs = net.outputs }
with_sides net Output sides = record { start = net.start; end = net.end; inputs = net.inputs; outputs = sides }

-- the net with m, which is new, on activity a's side
abbrev pub with_set : Net → Side → ℕ → ℕ → Net
with_set net side a m = with_sides net side (grown_sides (sides_of net side) a m)

-- the net that put has to return: with the set if it is new, else the very net given
unfoldable pub put_gives : Net → Side → ℕ → ℕ → Net
put_gives net side a m = cond (grows (put_says net side a m)) (with_set net side a m) net

-- what put answers and leaves of the net
pub record PutLeft (net : Net) (side : Side) (a m : ℕ) (answer : Result Bool Refused) (net' : Net) : Type 0 where
  pub says : put_means answer ≡ put_says net side a m
  pub gives : net' ≡ put_gives net side a m

abbrev pub PutDone : Net → Side → ℕ → ℕ → Returned Bool → Type 0
PutDone net side a m r = PutLeft net side a m r.answer r.net
