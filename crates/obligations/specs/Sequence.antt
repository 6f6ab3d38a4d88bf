-- Sequences of bindings (01, "Obligations and the step"; 000, Definitions 3 and 7).
use Rattle.std.specs.Prelude.{ℕ, ◌+◌, ◌≤◌, ◌<◌, ◌≡◌, Bool, true, ◌&&◌, List, [], ◌∷◌, ◌↔◌, get_or, take, length}
pub use Rattle.obligations.specs.declared.sequence.Binding.{Binding}
use Rattle.obligations.specs.Limits.{activities}
use Rattle.obligations.specs.Tests.{first_failing}
use Rattle.obligations.specs.Sets.{member}
use Rattle.obligations.specs.Trace.{Shaped}
use Rattle.obligations.specs.State.{count, nothing, possible, after, all_zero}

-- the bindings that words hold, three words a position; one or two words left over hold none
unfoldable pub bindings : List ℕ → List Binding
bindings [] = []
bindings (a ∷ []) = []
bindings (a ∷ x ∷ []) = []
bindings (a ∷ x ∷ y ∷ ws) = record { activity = a; input = x; output = y } ∷ bindings ws

-- the words of a sequence
unfoldable pub words : List Binding → List ℕ
words [] = []
words (b ∷ s) = b.activity ∷ b.input ∷ b.output ∷ words s

-- the binding with i others before it: position i + 1, as positions count from 1
abbrev pub at : List Binding → ℕ → Binding
at s i = get_or s i (record { activity = 0; input = 0; output = 0 })

-- the state after a sequence, from the state d on
unfoldable pub run : List ℕ → List Binding → List ℕ
run d [] = d
run d (b ∷ s) = run (after d b.activity b.input b.output) s

-- 000's ψ: the state after a sequence
abbrev pub ψ : List Binding → List ℕ
ψ s = run nothing s

-- the binding b is possible in the state d: for every activity p in its input set, its activity is due because of p
abbrev pub Possible : List ℕ → Binding → Type 0
Possible d b = (p : ℕ) → p < activities → member b.input p ≡ true → 1 ≤ count d p b.activity

-- nothing is left in the state d: for each pair of activities the count is zero
abbrev pub NothingLeft : List ℕ → Type 0
NothingLeft d = (p q : ℕ) → p < activities → q < activities → count d p q ≡ 0

-- well-formed for a start and an end. i is the number of positions before the one spoken of.
pub record WellFormed (start end : ℕ) (s : List Binding) : Type 0 where
  pub activities_only : (i : ℕ) → i < length s → (at s i).activity < activities
  pub shape : Shaped start end (length s) (λ i. (at s i).activity)
  pub input_empty_first_only : (i : ℕ) → i < length s → ((at s i).input ≡ 0) ↔ (i ≡ 0)
  pub output_empty_last_only : (i : ℕ) → i < length s → ((at s i).output ≡ 0) ↔ (i + 1 ≡ length s)
  pub each_possible : (i : ℕ) → i < length s → Possible (ψ (take i s)) (at s i)
  pub nothing_left : NothingLeft (ψ s)

-- the binding with i others before it is possible after those
unfoldable pub possible_at : List Binding → ℕ → Bool
possible_at s i = possible (ψ (take i s)) (at s i).activity (at s i).input

-- the first position at which a binding isn't possible, or 0
unfoldable pub first_impossible : List Binding → ℕ
first_impossible s = first_failing (length s) (possible_at s)

-- from the state d on each binding is possible after those before it, and the last state is all zero
unfoldable pub completes : List ℕ → List Binding → Bool
completes d [] = all_zero d
completes d (b ∷ s) = possible d b.activity b.input && completes (after d b.activity b.input b.output) s
