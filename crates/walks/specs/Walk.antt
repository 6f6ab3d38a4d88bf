-- Walks along arcs, and the nets that pass the check (01, "Net check and judge"; 02, (iv)).
use Rattle.std.specs.Prelude.{ℕ, ◌<◌, ◌≡◌, ◌↔◌}
use Rattle.obligations.specs.Limits.{activities}
use Rattle.net.specs.Sides.{OnSide}
use Rattle.net.specs.Orderly.{Orderly}
use Rattle.net.specs.declared.Net.{Net}
use Rattle.net.specs.declared.sides.Side.{Side}
use Rattle.net.specs.declared.sides.Side.TheVariants.{Input, Output}
use Rattle.walks.specs.Arcs.{Names, Arc}

-- the second number is reached from the first by steps, none or more; a number may be visited more than once
pub data Along (Step : ℕ → ℕ → Type 0) : ℕ → ℕ → Type 0 where
  here : {a : ℕ} → Along Step a a
  along : {a b c : ℕ} → Step a b → Along Step b c → Along Step a c

-- there is a walk along arcs from one activity to another
abbrev pub Walk : Net → ℕ → ℕ → Type 0
Walk net a b = Along (Arc net) a b

-- a is one of the net's activities: start, end, all with a set on either side, and all activities named in a set
pub data InNet (net : Net) (a : ℕ) : Type 0 where
  the_start : a ≡ net.start → InNet net a
  the_end : a ≡ net.end → InNet net a
  with_a_set : (side : Side) (m : ℕ) → OnSide net side a m → InNet net a
  in_a_set : (side : Side) (b : ℕ) → a < activities → Names net side b a → InNet net a

-- a is on a walk along arcs from start to end
pub record OnWalk (net : Net) (a : ℕ) : Type 0 where
  pub from_start : Walk net net.start a
  pub to_end : Walk net a net.end

-- the net passes: it is orderly, each of its activities is on a walk from start to end, and every name is answered: p is in some
-- input set of q exactly if q is in some output set of p (003, Definition 1, where both are the relation D)
pub record Passes (net : Net) : Type 0 where
  pub is_orderly : Orderly net
  pub on_walks : (a : ℕ) → InNet net a → OnWalk net a
  pub answered : (p q : ℕ) → p < activities → q < activities → Names net Input q p ↔ Names net Output p q
