-- The definitions computed on sequences of the papers. Assumes nothing.
use Rattle.std.proofs.Common.{◌≡◌, refl, true, false, [], ◌∷◌, take}
use Rattle.obligations.specs.Tests.{first_from, first_failing}
use Rattle.obligations.specs.Sets.{member, bit, members, size, subset, minus}
use Rattle.obligations.specs.Places.{places_of}
use Rattle.obligations.specs.State.{count, nothing, inputs, outputs, all_due, lowered, raised, possible, taken, added, after, all_zero, total}
use Rattle.obligations.specs.Examples.{fig4}
use Rattle.obligations.specs.Sequence.{bindings, run, ψ, possible_at, first_impossible, completes}

-- after the third position of Fig. 4 c is due twice because of b, so that a flag a pair doesn't do
due_twice : let s = bindings fig4 in (count (ψ (take 3 s)) 1 2 ≡ 2) × (completes nothing s ≡ true) × (first_impossible s ≡ 0)
unfolding fig4 bindings run count completes first_impossible first_failing first_from possible_at possible after taken added inputs outputs places_of members all_due lowered raised all_zero
due_twice = (refl, refl, refl)

-- (1, 3, 10) names 1 in X and in Y, and what its Y adds can't serve its X: not possible at position 2
not-from_itself : first_impossible (bindings (0 ∷ 0 ∷ 2 ∷ 1 ∷ 3 ∷ 10 ∷ 3 ∷ 2 ∷ 0 ∷ [])) ≡ 2
unfolding bindings run first_impossible first_failing first_from possible_at possible after taken added inputs outputs places_of members all_due lowered raised
not-from_itself = refl

-- (0, 0, 6)(2, 1, 8)(3, 4, 0) is possible throughout and leaves 1 due because of 0
one_left : let s = bindings (0 ∷ 0 ∷ 6 ∷ 2 ∷ 1 ∷ 8 ∷ 3 ∷ 4 ∷ 0 ∷ []) in (first_impossible s ≡ 0) × (total (ψ s) ≡ 1) × (count (ψ s) 0 1 ≡ 1)
unfolding bindings run count total first_impossible first_failing first_from possible_at possible after taken added inputs outputs places_of members all_due lowered raised
one_left = (refl, refl, refl)

-- sets
sets : (members 11 ≡ 0 ∷ 1 ∷ 3 ∷ []) × (size 4294967295 ≡ 32) × (member 11 2 ≡ false) × (subset 9 11 ≡ true)
unfolding members size member bit subset minus
sets = (refl, refl, refl, refl)
