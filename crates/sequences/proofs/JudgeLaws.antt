-- The chain of judge's refusals, and that it passes over counts. Assumes nothing.
use Prim.Native.Nat.{ℕ}
use mathlib.Core.Path.{◌≡◌, sym, ap, ◌∙◌}
use mathlib.Core.Bool.{true, false}
use mathlib.Core.List.{List}
use native.Mathlib.Omega.{arith}
use borrow.Author.Tests.{ne_eqb}
use lib.ListN.{length}
use Rattle.std.proofs.Common.{Some, None}
use Rattle.obligations.specs.Tests.{position_of}
use Rattle.obligations.specs.Trace.{shaped}
use Rattle.obligations.specs.Sequence.{at}
use Rattle.obligations.specs.declared.sequence.Binding.{Binding}
use Rattle.obligations.proofs.PositionLaws.{none_position, some_position}
use Rattle.net.specs.Refusals.{Says, accepted, refused}
use Rattle.net.specs.Sides.{uncounted}
use Rattle.net.specs.Orderly.{orderly}
use Rattle.net.specs.declared.Net.{Net}
use Rattle.net.proofs.UncountedLaws.{uncounted-orderly}
use Rattle.walks.specs.Check.{pass_says}
use Rattle.walks.specs.Arcs.{arcs}
use Rattle.walks.proofs.CheckLaws.{Clear, passing_passes, passing_rest, passing_refused}
use Rattle.walks.proofs.UncountedLaws.{passing-uncounted}
use Rattle.sequences.specs.Judge.{on_side_at, first_missing, run_says, judge_positions, judge_says}

-- ---- the chain from refusal 6 on

module _ (net : Net) (s : List Binding) where
  pub judged_not_passing : (n p : ℕ) → refused n p ≡ pass_says net → refused n p ≡ judge_positions net s
  unfolding judge_positions
  judged_not_passing n p e = sym (passing_refused net _ (arcs net) n p (sym e))

  module _ (k : ℕ) (e : accepted k ≡ pass_says net) where
    clear : Clear net
    clear = ((passing_passes net (accepted (arcs net))).0 (ap (λ (s : Says). s.ok) (sym e))).0

    pub judged_ends : shaped net.start net.end (length s) (λ i. (at s i).activity) ≡ false → refused 7 0 ≡ judge_positions net s
    unfolding judge_positions
    judged_ends f = sym (passing_rest net _ clear ∙ rw f)

    module _ (h : shaped net.start net.end (length s) (λ i. (at s i).activity) ≡ true) where
      pub judged_missing : (place : ℕ) → position_of (first_missing net s) ≡ Some place → refused 8 place ≡ judge_positions net s
      unfolding judge_positions
      judged_missing place q = let p = some_position _ place q in sym (passing_rest net _ clear ∙ rw (h, p.0, ne_eqb place 0 (λ z. omega (arith, p.1))))

      pub judged_run : position_of (first_missing net s) ≡ None → run_says s ≡ judge_positions net s
      unfolding judge_positions
      judged_run q = sym (passing_rest net _ clear ∙ rw (h, none_position _ q))

-- ---- counts are passed over

judged_uncounted : (net : Net) (s : List Binding) → judge_positions (uncounted net) s ≡ judge_positions net s
unfolding judge_positions first_missing on_side_at
judged_uncounted net s = passing-uncounted net _

pub judge-uncounted : (net : Net) (ws : List ℕ) → orderly net ≡ true → judge_says (uncounted net) ws ≡ judge_says net ws
unfolding judge_says
judge-uncounted net ws o = rw (uncounted-orderly net o, o, judged_uncounted net _)
