-- A law of the two iterators: with an item fewer is left, and so each makes progress. Assumes nothing.
use Rattle.std.proofs.Common.{◌≡◌, List, ◌∷◌, arith, ap, length, Some}
use Rattle.std.specs.Iterator.{MakesProgress, item_count}
use Rattle.std.specs.Prelude.{⊤}

pub makes-progress : {S A B : Type 0} (rest : S → List B) (s t : S) (x : A) (y : B) → rest s ≡ y ∷ rest t → MakesProgress {A = A} (λ _. ⊤) (item_count rest) s (Some x) t
makes-progress rest s t x y e = record { on = λ f. (tt, tt, omega (arith, ap length e)); keeps = tt; rests = λ f. tt }
