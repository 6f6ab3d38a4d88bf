-- Laws of `all_below`: a test of each number below n passes exactly if each passes, and if `all` of their list does; by induction
-- on n. Assumes nothing.
use Prim.Native.Nat.{ℕ, zero, suc, ◌+◌, ◌<◌}
use native.Mathlib.Nat.{not-suc-le-zero}
use native.Mathlib.Decide.{ℕ_discrete as dec_eq}
use native.Mathlib.Omega.{arith}
use native.Mathlib.Numerals.{add-one}
use mathlib.Core.Path.{◌≡◌, refl, sym, ap, ◌∙◌}
use mathlib.Core.Bool.{Bool, true, false, and-false, and-true}
use mathlib.Core.List.{List, [], ◌∷◌, ◌++◌, map-id}
use Rattle.std.specs.List.{list_all, range_with_len}
use Rattle.std.proofs.lemmas.List.Folds.{list_all-append}
use Rattle.std.proofs.lemmas.List.FromFn.{map-range_with_len_more}
use mathlib.Core.Logic.{⊎_elim}
use Rattle.obligations.proofs.BoolLaws.{true_or_false, false-not-true}
use Rattle.net.specs.Lists.{all_below}

pub below_true : (n : ℕ) (test : ℕ → Bool) → ((k : ℕ) → k < n → test k ≡ true) → all_below n test ≡ true
unfolding all_below
below_true zero test h = refl
below_true (suc n) test h = rw (below_true n test (λ k l. h k (omega arith)), h n (omega arith))

pub below_false : (n : ℕ) (test : ℕ → Bool) (k : ℕ) → k < n → test k ≡ false → all_below n test ≡ false
unfolding all_below
below_false zero test k l e = absurd (not-suc-le-zero l)
below_false (suc n) test k l e = elim (dec_eq k n) [ yes p ↦ rw (← p, e, and-false) | no p ↦ rw (below_false n test k (omega arith) e) ]

pub below_at : (n : ℕ) (test : ℕ → Bool) (k : ℕ) → k < n → all_below n test ≡ true → test k ≡ true
below_at n test k l e = ⊎_elim (λ t. t) (λ f. absurd (false-not-true (below_false n test k l f) e)) (true_or_false (test k))

-- the list of the numbers below n + 1 ends with n
more : (n : ℕ) → range_with_len 0 (n + 1) ≡ range_with_len 0 n ++ (n ∷ [])
more n = sym (map-id _) ∙ map-range_with_len_more (λ k. k) 0 n n (omega arith) ∙ ap (λ (l : List ℕ). l ++ (n ∷ [])) (map-id _)

pub below_list : (n : ℕ) (test : ℕ → Bool) → list_all test (range_with_len 0 n) ≡ all_below n test
unfolding all_below
below_list zero test = refl
below_list (suc n) test =
    ap (list_all test) (rw add-one at (more n)) ∙ list_all-append test (range_with_len 0 n) (n ∷ []) ∙ rw (below_list n test, and-true)
