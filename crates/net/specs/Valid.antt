-- Valid in a net (01, "Obligations and the step"; 000, Definition 3): well-formed, and each set on its side.
use Rattle.std.specs.Prelude.{ℕ, ◌<◌, List, length}
use Rattle.obligations.specs.declared.sequence.Binding.{Binding}
use Rattle.obligations.specs.Sequence.{at, WellFormed}
use Rattle.net.specs.Sides.{OnSide}
use Rattle.net.specs.declared.Net.{Net}
use Rattle.net.specs.declared.sides.Side.TheVariants.{Input, Output}

-- i is the number of positions before the one spoken of
pub record Valid (net : Net) (s : List Binding) : Type 0 where
  pub well_formed : WellFormed net.start net.end s
  pub inputs_on_side : (i : ℕ) → i < length s → OnSide net Input (at s i).activity (at s i).input
  pub outputs_on_side : (i : ℕ) → i < length s → OnSide net Output (at s i).activity (at s i).output
