-- Names, arcs and walks of an orderly net are those of each net that it is contained in, since its sets are there too. Assumes nothing.
use Prim.Native.Nat.{ℕ}
use Rattle.net.specs.Orderly.{Orderly}
use Rattle.net.specs.Contained.{Contained}
use Rattle.net.specs.declared.Net.{Net}
use Rattle.net.specs.declared.sides.Side.{Side}
use Rattle.net.specs.declared.sides.Side.TheVariants.{Input, Output}
use Rattle.net.proofs.OrderlyLaws.{facts_orderly}
use Rattle.walks.specs.Arcs.{Names, Arc}
use Rattle.walks.specs.Walk.{Walk}
use Rattle.walks.proofs.AlongLaws.{along-map}
use Rattle.walks.proofs.WalkLaws.{names_activity}

module _ (net other : Net) (o : Orderly net) (c : Contained net other) where
  pub names_grow : (side : Side) (a k : ℕ) → Names net side a k → Names other side a k
  names_grow side a k n = record { set = n.set; on_side = c.among side a n.set (names_activity net (facts_orderly net o) side a k n) n.on_side; in_set = n.in_set }

  pub arcs_grow : (p q : ℕ) → Arc net p q → Arc other p q
  arcs_grow p q a = record { in_input = names_grow Input q p a.in_input; in_output = names_grow Output p q a.in_output }

  pub walk_grows : {a b : ℕ} → Walk net a b → Walk other a b
  walk_grows w = along-map arcs_grow w
