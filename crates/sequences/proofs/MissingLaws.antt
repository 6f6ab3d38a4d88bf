-- Refusal 8, position by position: the loop goes on while both sets of a position are on their sides, and the first position of
-- which one isn't is the answer. Assumes nothing.
use Prim.Native.Nat.{ℕ, ◌+◌, ◌<◌}
use mathlib.Core.Path.{◌≡◌, ◌∙◌}
use mathlib.Core.Bool.{Bool, true, false, ◌&&◌, and-false}
use mathlib.Core.List.{List, [], ◌∷◌}
use native.Mathlib.Numerals.{add-one}
use native.Mathlib.Omega.{arith}
use lib.ListN.{length, drop}
use Rattle.std.proofs.Common.{Some, None}
use Rattle.obligations.specs.Tests.{position_of}
use Rattle.obligations.specs.Sequence.{at}
use Rattle.obligations.specs.declared.sequence.Binding.{Binding}
use Rattle.obligations.proofs.BoolLaws.{and_both}
use Rattle.obligations.proofs.ListLaws.{drop_head, drop_end}
use Rattle.obligations.proofs.PositionLaws.{AllPass, pass_first, fails_first, position_none, position_some}
use Rattle.obligations.proofs.TraceLaws.{pass_more}
use Rattle.net.specs.Lists.{listed}
use Rattle.net.specs.Sides.{sets_on}
use Rattle.net.specs.declared.Net.{Net}
use Rattle.net.specs.declared.sides.Side.TheVariants.{Input, Output}
use Rattle.sequences.specs.Judge.{on_side_at, first_missing}

-- both sets of the position after i others are on their sides
abbrev pub both_on : Net → List Binding → ℕ → Bool
both_on net s i = on_side_at net Input s i && on_side_at net Output s i

-- the loop has passed i positions, where `rest` is left of them, and both sets of each are on their sides
pub record Passed (net : Net) (s : List Binding) (i : ℕ) (rest : List Binding) : Type 0 where
  pub left : drop i s ≡ rest
  pub all_on : AllPass i (both_on net s)

module _ (net : Net) (s : List Binding) where
  pub passed_none : (rest : List Binding) → s ≡ rest → Passed net s 0 rest
  passed_none rest e = record { left = e; all_on = λ j l. absurd (omega arith) }

  module _ (i : ℕ) (rest : List Binding) (r : Passed net s i rest) where
    pub all_passed : rest ≡ [] → position_of (first_missing net s) ≡ None
    unfolding first_missing
    all_passed e = position_none (pass_first (length s) (both_on net s) (λ j l. r.all_on j (omega (arith, drop_end s i (r.left ∙ e)))))

    module _ (b : Binding) (rest' : List Binding) (e : rest ≡ b ∷ rest') where
      pub passed_inside : i < length s
      passed_inside = (drop_head s i b rest' b (r.left ∙ e)).0

      here : at s i ≡ b
      here = (drop_head s i b rest' (record { activity = 0; input = 0; output = 0 }) (r.left ∙ e)).1

      pub passed_activity : ((j : ℕ) → j < length s → (at s j).activity < 32) → b.activity < 32
      passed_activity low = rw here at (low i passed_inside)

      input_test : on_side_at net Input s i ≡ listed b.input (sets_on net Input b.activity)
      unfolding on_side_at
      input_test = rw here

      output_test : on_side_at net Output s i ≡ listed b.output (sets_on net Output b.activity)
      unfolding on_side_at
      output_test = rw here

      pub passed_next : listed b.input (sets_on net Input b.activity) ≡ true → listed b.output (sets_on net Output b.activity) ≡ true → Passed net s (i + 1) rest'
      passed_next x y = record { left = (drop_head s i b rest' b (r.left ∙ e)).2; all_on = pass_more (both_on net s) i r.all_on (and_both (input_test ∙ x) (output_test ∙ y)) }

      missing_here : both_on net s i ≡ false → position_of (first_missing net s) ≡ Some (i + 1)
      unfolding first_missing
      missing_here f = rw add-one (position_some (fails_first (length s) (both_on net s) i (record { inside = passed_inside; before = r.all_on; fails = f })))

      pub input_missing : listed b.input (sets_on net Input b.activity) ≡ false → position_of (first_missing net s) ≡ Some (i + 1)
      input_missing x = missing_here (rw (input_test ∙ x))

      pub output_missing : listed b.output (sets_on net Output b.activity) ≡ false → position_of (first_missing net s) ≡ Some (i + 1)
      output_missing y = missing_here (simp (output_test ∙ y, and-false))
