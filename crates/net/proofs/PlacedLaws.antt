-- What a put on one side leaves, by its answers, and the counts beside it. Assumes nothing.
use Prim.Native.Nat.{ℕ, ◌+◌, ◌*◌, ◌-◌, ◌<◌, ◌≤◌}
use native.Mathlib.Omega.{arith}
use mathlib.Core.Path.{◌≡◌, refl, ◌∙◌}
use mathlib.Core.Bool.{Bool, true, false}
use Rattle.std.specs.Prelude.{Result, Ok, Err}
use mathlib.Core.List.{List, ◌∷◌}
use lib.ListN.{length, take, drop, get_or}
use borrow.Author.Tests.{eq-eqb, ne_eqb}
use Rattle.obligations.specs.Limits.{activities}
use Rattle.net.specs.Limits.{sets, places}
use Rattle.net.specs.Lists.{listed, insert, splice}
use Rattle.net.specs.Sides.{with_counts, sets_in, place_on}
use Rattle.net.specs.Inner.{OrderlySides, placed_means, SideSaid, SideDone, CountedDone}
use Rattle.net.specs.Put.{misplaced, side_says, grows, grown_sides, put_sides}
use Rattle.net.specs.declared.putting.Placed.{Placed}
use Rattle.net.specs.declared.refusal.Refusal.{Refusal}
use Rattle.net.specs.declared.refusal.Refusal.TheVariants.{MisplacedSet, FullSide}
use Rattle.net.specs.declared.sides.Sides.{Sides}
use Rattle.net.proofs.SideLaws.{same_sides}
use Rattle.net.proofs.PutSideLaws.{place_in_side, inserted, has_room_lem}

-- ---- the side

-- an answer with the place q
placed_at : (x q : ℕ) (new : Bool) → x ≡ q → (p : Placed) → ◌≡◌ {A = Result Placed Refusal} (Ok (record { at = x; new = new })) (Ok p) → p.at ≡ q
placed_at x q new e p f = rw (← ok_is f) e
  where
    ok_is : {x y : Placed} → ◌≡◌ {A = Result Placed Refusal} (Ok x) (Ok y) → x ≡ y
    ok_is f = cc

-- a refusal has none
nowhere : (q : ℕ) (r : Refusal) (p : Placed) → ◌≡◌ {A = Result Placed Refusal} (Err r) (Ok p) → p.at ≡ q
nowhere q r p f = absurd (let z : ◌≡◌ {A = ℕ} 0 1 = cc in omega arith)

module _ (sides : Sides) (empty a m : ℕ) where
  -- a side that stays
  stays : (r : Result Placed Refusal) → SideSaid sides empty a m r → grows (side_says sides empty a m) ≡ false → SideDone sides empty a m r sides
  unfolding put_sides
  stays r d f = record { said = d; masks_are = rw f; lengths_are = rw f; counts_stay = refl }

  pub done_misplaced : misplaced empty a m ≡ true → SideDone sides empty a m (Err MisplacedSet) sides
  unfolding side_says grows
  done_misplaced e = stays _ (record { says = rw e; place_is = nowhere _ MisplacedSet }) (rw e)

  module _ (e : misplaced empty a m ≡ false) where
    pub done_present : listed m (sets_in sides a) ≡ true → (x : ℕ) → x ≡ place_on sides a m
        → SideDone sides empty a m (Ok (record { at = x; new = false })) sides
    unfolding side_says grows
    done_present t x p = stays _ (record { says = rw (e, t); place_is = placed_at x _ false p }) (rw (e, t))

    module _ (t : listed m (sets_in sides a) ≡ false) where
      pub done_full : get_or sides.lengths a 0 ≡ sets → SideDone sides empty a m (Err FullSide) sides
      unfolding side_says grows
      done_full n =
          let f = eq-eqb _ _ n in
          stays _ (record { says = rw (e, t, f); place_is = nowhere _ FullSide }) (rw (e, t, f))

      pub done_new : (get_or sides.lengths a 0 ≡ sets → ⊥) → (x : ℕ) → x ≡ place_on sides a m → (masks : List ℕ) → masks ≡ (grown_sides sides a m).masks
          → SideDone sides empty a m (Ok (record { at = x; new = true })) (record { masks = masks; lengths = (grown_sides sides a m).lengths; counts = sides.counts })
      unfolding side_says grows put_sides
      done_new n x p masks q =
          let f = ne_eqb _ _ n in
          record { said = record { says = rw (e, t, f); place_is = placed_at x _ true p }; masks_are = rw (e, t, f) q; lengths_are = rw (e, t, f); counts_stay = refl }

-- the insertion that a new set's place asks for
pub grown-there : (sides : Sides) (empty a m : ℕ) → OrderlySides sides empty → a < activities → (x to : ℕ) → x ≡ place_on sides a m → to ≡ sets * a + get_or sides.lengths a 0 → get_or sides.lengths a 0 < sets
    → splice sides.masks x (m ∷ take (to - x) (drop x sides.masks)) ≡ (grown_sides sides a m).masks
unfolding insert
grown-there sides empty a m o h x to p q room = rw (p, q) (inserted sides empty a m o h sides.masks m o.masks_long room)

-- ---- the counts

module _ (sides : Sides) (empty a m : ℕ) (r : Result Placed Refusal) (put : Sides) (d : SideDone sides empty a m r put) where
  -- where the side stays, so do the counts
  counted_stays : grows (placed_means r) ≡ false → CountedDone sides empty a m r put
  unfolding put_sides
  counted_stays f =
      record { said = d.said; sides_are = same_sides put _ d.masks_are d.lengths_are (d.counts_stay ∙ rw (← d.said.says, f)) }

pub counted_present : (sides : Sides) (empty a m : ℕ) (p : Placed) (put : Sides) → SideDone sides empty a m (Ok p) put → p.new ≡ false → CountedDone sides empty a m (Ok p) put
unfolding grows
counted_present sides empty a m p put d e = counted_stays sides empty a m (Ok p) put d (rw e)

pub counted_refused : (sides : Sides) (empty a m : ℕ) (r : Refusal) (put : Sides) → SideDone sides empty a m (Err r) put → CountedDone sides empty a m (Err r) put
unfolding grows
counted_refused sides empty a m r put d = counted_stays sides empty a m (Err r) put d refl

module _ (sides : Sides) (empty a m : ℕ) (o : OrderlySides sides empty) (h : a < activities) (p : Placed) (put : Sides) (d : SideDone sides empty a m (Ok p) put)
    (to : ℕ) (e : p.new ≡ true) (q : to ≡ sets * a + get_or sides.lengths a 0) where
  grew : grows (side_says sides empty a m) ≡ true
  unfolding grows
  grew = rw (← d.said.says, e)

  pub room_there : (p.at ≤ to) × (to < places)
  room_there = (omega (arith, d.said.place_is p refl, place_in_side sides empty a m o h), omega (arith, has_room_lem sides empty a m o h grew))

  pub counted_new : length sides.counts ≡ places → (counts : List ℕ) → counts ≡ splice put.counts p.at (0 ∷ take (to - p.at) (drop p.at put.counts))
      → CountedDone sides empty a m (Ok p) (with_counts put counts)
  unfolding put_sides
  counted_new long counts f = record {
    said = d.said;
    sides_are =
        same_sides _ _ d.masks_are d.lengths_are
        (f ∙ rw (d.counts_stay, grew, d.said.place_is p refl, q) (inserted sides empty a m o h sides.counts 0 long (has_room_lem sides empty a m o h grew)));
  }
