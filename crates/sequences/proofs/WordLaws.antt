-- The words of a sequence where the code reads them: the activity after i others, at three times i. Assumes nothing.
use Prim.Native.Nat.{ℕ, ◌*◌}
use mathlib.Core.Path.{◌≡◌}
use mathlib.Core.List.{List}
use lib.ListN.{length, get_or}
use Rattle.obligations.specs.Sequence.{bindings, at}
use Rattle.obligations.specs.Trace.{shaped}
use Rattle.obligations.proofs.TraceLaws.{shaped_ext}
use Rattle.obligations.proofs.SequenceLaws.{held_at}

-- the code's test of the shape on words is the definition's on bindings
pub shaped-same : (start end : ℕ) (ws : List ℕ)
    → shaped start end (length (bindings ws)) (λ i. (at (bindings ws) i).activity) ≡ shaped start end (length (bindings ws)) (λ i. get_or ws (3 * i) 0)
shaped-same start end ws =
    shaped_ext start end (length (bindings ws)) (λ i. (at (bindings ws) i).activity) (λ i. get_or ws (3 * i) 0) (λ i h. (held_at ws i h).activity_held)
