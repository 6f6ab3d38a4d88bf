-- What is proved of the definitions: the step agrees with 000's ψ at every pair, and the tests with their sentences.
-- The proofs are in proofs/Theorems.antt.
use Rattle.std.specs.Prelude.{ℕ, suc, ◌+◌, ◌-◌, ◌*◌, ◌≤◌, ◌<◌, ◌≡◌, true, ◌&&◌, ◌↔◌, eqb, length, take, Some, None}
use mathlib.Core.List.{List, Memᴰ}
use Rattle.obligations.specs.Limits.{activities, pairs, positions}
use Rattle.obligations.specs.Tests.{indicator, number}
use Rattle.obligations.specs.Sets.{member, members, size}
use Rattle.obligations.specs.State.{count, nothing, possible, after, before, all_zero, total, step_says, step_gives, State, most_due}
use Rattle.obligations.specs.Trace.{shaped, Shaped}
use Rattle.obligations.specs.Sequence.{Binding, bindings, words, at, ψ, Possible, NothingLeft, first_impossible, completes}

-- 000, Definition 3: ψ after a binding, at each pair (p, q)
abbrev pub StepIsψ : Type 0
StepIsψ =
    (d : List ℕ) (a x y p q : ℕ) → length d ≡ pairs → a < activities → p < activities → q < activities
    → count (after d a x y) p q ≡ (count d p q - indicator (eqb q a && member x p)) + indicator (eqb p a && member y q)

-- possible: for every activity p in x, (p, a) has a count of at least 1
abbrev pub PossibleIsEvery : Type 0
PossibleIsEvery = (d : List ℕ) (a x : ℕ) → (possible d a x ≡ true) ↔ ((p : ℕ) → p < activities → member x p ≡ true → 1 ≤ count d p a)

-- undoing a possible step gives the state before it
abbrev pub UndoUndoes : Type 0
UndoUndoes = (d : List ℕ) (a x y : ℕ) → possible d a x ≡ true → before (after d a x y) a x y ≡ d

-- the total of all counts over a possible step, and when it is zero
abbrev pub StepTotal : Type 0
StepTotal =
    (d : List ℕ) (a x y : ℕ) → length d ≡ pairs → a < activities → possible d a x ≡ true
    → total (after d a x y) + size x ≡ total d + size y

abbrev pub TotalZero : Type 0
TotalZero = (d : List ℕ) → (total d ≡ 0) ↔ (all_zero d ≡ true)

-- what a step reports: the total of all counts after it exactly if the binding is possible, and else that it isn't, with the
-- state as it was
pub record StepSaid (d : List ℕ) (b : Binding) : Type 0 where
  pub total_exactly : (k : ℕ) → (step_says d b.activity b.input b.output ≡ Some k) ↔ (Possible d b × (total (after d b.activity b.input b.output) ≡ k))
  pub impossible_exactly : (step_says d b.activity b.input b.output ≡ None) ↔ (Possible d b → ⊥)
  pub changed_if : Possible d b → step_gives d b.activity b.input b.output ≡ after d b.activity b.input b.output
  pub same_if_not : (Possible d b → ⊥) → step_gives d b.activity b.input b.output ≡ d

abbrev pub StepReports : Type 0
StepReports = (d : List ℕ) (b : Binding) → StepSaid d b

-- every count of a state is zero exactly if nothing is left in it
abbrev pub AllZeroIsEvery : Type 0
AllZeroIsEvery = (d : List ℕ) → length d ≡ pairs → (all_zero d ≡ true) ↔ NothingLeft d

-- the activities that are members of a set are those listed, and its size is their number
abbrev pub MembersAreListed : Type 0
MembersAreListed = (m k : ℕ) → Memᴰ k (members m) ↔ ((k < activities) × (member m k ≡ true))

abbrev pub SizeIsNumber : Type 0
SizeIsNumber = (m : ℕ) → size m ≡ number activities (member m)

-- each binding of a sequence is possible after those before it
abbrev pub EachPossible : List Binding → Type 0
EachPossible s = (i : ℕ) → i < length s → Possible (ψ (take i s)) (at s i)

-- the first position at which a binding isn't possible is 0 exactly if each is possible after those before it ..
abbrev pub NoneImpossible : Type 0
NoneImpossible = (s : List Binding) → (first_impossible s ≡ 0) ↔ EachPossible s

-- .. and else it is the position after i others of which each is possible, while its own binding isn't
pub record ImpossibleAfter (s : List Binding) (i : ℕ) : Type 0 where
  pub inside : i < length s
  pub before_possible : (j : ℕ) → j < i → Possible (ψ (take j s)) (at s j)
  pub own_not : Possible (ψ (take i s)) (at s i) → ⊥

abbrev pub FirstIsImpossible : Type 0
FirstIsImpossible = (s : List Binding) (i : ℕ) → (first_impossible s ≡ suc i) ↔ ImpossibleAfter s i

-- a sequence completes from nothing exactly if each binding is possible after those before it and nothing is left
abbrev pub CompletesIsBoth : Type 0
CompletesIsBoth = (s : List Binding) → (completes nothing s ≡ true) ↔ (EachPossible s × NothingLeft (ψ s))

-- a count never exceeds the number of positions so far
abbrev pub CountsStaySmall : Type 0
CountsStaySmall = (s : List Binding) → State (length s) (ψ s)

-- so a step may follow every sequence within the limit of positions
abbrev pub CountsStayInBytes : Type 0
CountsStayInBytes = (s : List Binding) → length s ≤ positions → State most_due (ψ s)

-- start and end are first, last and nowhere else: the test agrees with the facts
abbrev pub ShapedIsFacts : Type 0
ShapedIsFacts = (start end n : ℕ) (activity_at : ℕ → ℕ) → (shaped start end n activity_at ≡ true) ↔ Shaped start end n activity_at

-- a sequence read from its words is the sequence, and back where the words are a multiple of three
abbrev pub WordsAndBack : Type 0
WordsAndBack = ((s : List Binding) → bindings (words s) ≡ s) × ((w : List ℕ) (n : ℕ) → length w ≡ 3 * n → words (bindings w) ≡ w)
