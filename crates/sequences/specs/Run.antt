-- A sequence run from the state in which nothing is due: refusals 10 and 11 (01, "Net check and judge"), and the peak
-- (02, (i)).
use Rattle.std.specs.Prelude.{ℕ, ◌+◌, max, ◌≤◌, ◌<◌, ◌≡◌, List, [], ◌∷◌, length, take}
use Rattle.obligations.specs.Sets.{size}
use Rattle.obligations.specs.State.{after, total}
use Rattle.obligations.specs.Sequence.{at, ψ, Possible, NothingLeft}
use Rattle.obligations.specs.declared.sequence.Binding.{Binding}
use Rattle.net.specs.Refusals.{not_possible, left_over}
use Rattle.net.specs.Sentences.{Sentence, whole, first}

-- ---- the refusals; i is the number of positions before the one spoken of

-- 10: a binding isn't possible after those before it
abbrev pub Impossible : List Binding → ℕ → Type 0
Impossible s i = Possible (ψ (take i s)) (at s i) → ⊥

abbrev pub not_all_possible : List Binding → Sentence
not_all_possible s = first not_possible (length s) (Impossible s)

-- 11: the last state isn't zero
abbrev pub obligations_left : List Binding → Sentence
obligations_left s = whole left_over (NothingLeft (ψ s) → ⊥)

-- ---- the peak

-- the total of all counts after the position with i others before it
abbrev pub total_after : List Binding → ℕ → ℕ
total_after s i = total (ψ (take (i + 1) s))

-- the peak of a sequence: the total after some position, and no total after any position is above it
pub record Peak (s : List Binding) (peak : ℕ) : Type 0 where
  pub position : ℕ
  pub inside : position < length s
  pub reached : total_after s position ≡ peak
  pub highest : (i : ℕ) → i < length s → total_after s i ≤ peak

-- ---- what is computed

-- the largest total after any position, from the state d on
unfoldable pub largest_total : List ℕ → List Binding → ℕ
largest_total d [] = 0
largest_total d (b ∷ s) =
    let next = after d b.activity b.input b.output in
    max (total next) (largest_total next s)

-- the sum of the sizes of all Y
unfoldable pub output_sizes : List Binding → ℕ
output_sizes [] = 0
output_sizes (b ∷ s) = size b.output + output_sizes s
