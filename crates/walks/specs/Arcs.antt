-- The arcs of a net (01, "Net check and judge"): as facts in the paper's words, and as tests that compute.
use Rattle.std.specs.Prelude.{ℕ, ◌≡◌, Bool, true, false, ◌&&◌, ◌||◌, List, [], ◌∷◌}
use Rattle.obligations.specs.Limits.{activities}
use Rattle.obligations.specs.Tests.{number}
use Rattle.obligations.specs.Sets.{member}
use Rattle.net.specs.Sides.{sets_on, OnSide}
use Rattle.net.specs.declared.Net.{Net}
use Rattle.net.specs.declared.sides.Side.{Side}
use Rattle.net.specs.declared.sides.Side.TheVariants.{Input, Output}
use Rattle.walks.specs.Below.{sum_below}

-- ---- the facts

-- k is in some set on activity a's side
pub record Names (net : Net) (side : Side) (a k : ℕ) : Type 0 where
  pub set : ℕ
  pub on_side : OnSide net side a set
  pub in_set : member set k ≡ true

-- (p, q) is an arc: p is in some input set of q, and q in some output set of p
pub record Arc (net : Net) (p q : ℕ) : Type 0 where
  pub in_input : Names net Input q p
  pub in_output : Names net Output p q

-- ---- the tests

-- k is in some of the sets
unfoldable pub named : List ℕ → ℕ → Bool
named [] k = false
named (m ∷ ms) k = member m k || named ms k

unfoldable pub names : Net → Side → ℕ → ℕ → Bool
names net side a k = named (sets_on net side a) k

unfoldable pub arc : Net → ℕ → ℕ → Bool
arc net p q = names net Input q p && names net Output p q

-- the number of arcs: how many pairs (p, q) of activities are arcs
unfoldable pub arcs : Net → ℕ
arcs net = sum_below activities (λ p. number activities (λ q. arc net p q))
