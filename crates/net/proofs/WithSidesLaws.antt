-- Laws of a net with other sides of one kind: it has those, and the sides of the other kind, the start and the end are its own; it
-- is orderly if the net is and the other sides are. Each is by cases on the side. Assumes nothing.
use Prim.Native.Nat.{ℕ, ◌+◌}
use native.Mathlib.Omega.{arith}
use mathlib.Core.Path.{◌≡◌, refl, sym}
use mathlib.Core.Bool.{Bool, true, false, cond}
use mathlib.Core.Logic.{◌⊎◌, inl, inr}
use Rattle.obligations.specs.State.{total}
use Rattle.net.specs.Sides.{sides_of, lengths_of, empty_at, net_size}
use Rattle.net.specs.Inner.{OrderlySides}
use Rattle.net.specs.Orderly.{orderly}
use Rattle.net.specs.Put.{with_sides}
use Rattle.net.specs.declared.Net.{Net}
use Rattle.net.specs.declared.sides.Side.{Side}
use Rattle.net.specs.declared.sides.Sides.{Sides}
use Rattle.net.specs.declared.sides.Side.TheVariants.{Input, Output}
use Rattle.net.proofs.SideLaws.{OrderlyCounts}
use Rattle.net.proofs.OrderlyLaws.{orderly_ends, orderly_sides, orderly_counts, parts_orderly}

pub with-same : (net : Net) (side : Side) → with_sides net side (sides_of net side) ≡ net
with-same net Input = refl
with-same net Output = refl

pub with-cond : (net : Net) (side : Side) (g : Bool) (sides : Sides) → cond g (with_sides net side sides) net ≡ with_sides net side (cond g sides (sides_of net side))
with-cond net side true sides = refl
with-cond net side false sides = sym (with-same net side)

module _ (net : Net) (sides : Sides) where
  pub with_start : (side : Side) → (with_sides net side sides).start ≡ net.start
  with_start Input = refl
  with_start Output = refl

  pub with_end : (side : Side) → (with_sides net side sides).end ≡ net.end
  with_end Input = refl
  with_end Output = refl

  pub with_own : (side : Side) → sides_of (with_sides net side sides) side ≡ sides
  with_own Input = refl
  with_own Output = refl

  -- the sides of a kind are those, or they are the net's own
  pub record Own (side t : Side) : Type 0 where
    pub differs : t ≡ side → ⊥
    pub own_sides : sides_of (with_sides net side sides) t ≡ sides_of net t

  pub record Others (side t : Side) : Type 0 where
    pub same : t ≡ side
    pub other_sides : sides_of (with_sides net side sides) t ≡ sides

  pub with_kinds : (side t : Side) → Others side t ⊎ Own side t
  with_kinds Input Input = inl (record { same = refl; other_sides = refl })
  with_kinds Input Output = inr (record { differs = λ e. let z : ◌≡◌ {A = ℕ} 0 1 = cc in omega arith; own_sides = refl })
  with_kinds Output Input = inr (record { differs = λ e. let z : ◌≡◌ {A = ℕ} 0 1 = cc in omega arith; own_sides = refl })
  with_kinds Output Output = inl (record { same = refl; other_sides = refl })

  pub with_orderly : (side : Side) → orderly net ≡ true → OrderlySides sides (empty_at net side) → OrderlyCounts sides → orderly (with_sides net side sides) ≡ true
  with_orderly Input o f g =
      parts_orderly (with_sides net Input sides) (orderly_ends net o)
      (elim [ Input ↦ f | Output ↦ orderly_sides net o Output ]) (elim [ Input ↦ g | Output ↦ orderly_counts net o Output ])
  with_orderly Output o f g =
      parts_orderly (with_sides net Output sides) (orderly_ends net o)
      (elim [ Input ↦ orderly_sides net o Input | Output ↦ f ]) (elim [ Input ↦ orderly_counts net o Input | Output ↦ g ])

  pub with_size : (side : Side) (n : ℕ) → total sides.lengths ≡ total (lengths_of net side) + n → net_size (with_sides net side sides) ≡ net_size net + n
  with_size Input n e = omega arith
  with_size Output n e = omega arith
