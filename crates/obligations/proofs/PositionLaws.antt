-- The first position at which a test fails, said of each position: either the test passes at all and the answer is 0, or
-- the answer is the position of a failure with none before it. Assumes nothing.
use Rattle.std.proofs.Common.{ℕ, zero, suc, ◌+◌, ◌<◌, ◌≡◌, refl, sym, ap, subst, ◌∙◌, ◌⊎◌, inl, inr, ⊎_elim, Bool, true, false, zero-add, add-zero, arith, Some, None}
use Rattle.obligations.specs.Tests.{first_from, first_failing, position_of}
use Rattle.obligations.proofs.BoolLaws.{true_or_false}
use Rattle.obligations.proofs.SetLaws.{lt_or_le}

-- the test passes at each of the first n positions
abbrev pub AllPass : ℕ → (ℕ → Bool) → Type 0
AllPass n test = (i : ℕ) → i < n → test i ≡ true

-- the test fails after i others of n, and passes at those
pub record FailsFirst (n : ℕ) (test : ℕ → Bool) (i : ℕ) : Type 0 where
  pub inside : i < n
  pub before : AllPass i test
  pub fails : test i ≡ false

from_none : (test : ℕ → Bool) (k n : ℕ) → ((i : ℕ) → i < n → test (k + i) ≡ true) → first_from k n test ≡ 0
unfolding first_from
from_none test k zero h = refl
from_none test k (suc n) h =
    rw (rw (add-zero k) at (h 0 (omega arith))) (from_none test (suc k) n (λ i l. subst (λ (j : ℕ). test j ≡ true) (omega arith) (h (suc i) (omega arith))))

from_at : (test : ℕ → Bool) (k n i : ℕ) → i < n → ((j : ℕ) → j < i → test (k + j) ≡ true) → test (k + i) ≡ false → first_from k n test ≡ suc (k + i)
unfolding first_from
from_at test k zero i l h f = absurd (omega arith)
from_at test k (suc n) zero l h f = rw (rw (add-zero k) at f) (ap suc (sym (add-zero k)))
from_at test k (suc n) (suc i) l h f =
    let q : k + suc i ≡ suc k + i = omega arith in
    rw (rw (add-zero k) at (h 0 (omega arith)))
    (from_at test (suc k) n i (omega arith) (λ j m. subst (λ (p : ℕ). test p ≡ true) (omega arith) (h (suc j) (omega arith))) (subst (λ (p : ℕ). test p ≡ false) q f) ∙ ap suc (sym q))

pub pass_first : (n : ℕ) (test : ℕ → Bool) → AllPass n test → first_failing n test ≡ 0
unfolding first_failing
pass_first n test h = from_none test 0 n (λ i l. rw (zero-add i) (h i l))

pub fails_first : (n : ℕ) (test : ℕ → Bool) (i : ℕ) → FailsFirst n test i → first_failing n test ≡ suc i
unfolding first_failing
fails_first n test i f =
    from_at test 0 n i f.inside (λ j l. rw (zero-add j) (f.before j l)) (rw (zero-add i) f.fails) ∙ ap suc (zero-add i)

-- one of the two holds
pub pass_or_fails : (n : ℕ) (test : ℕ → Bool) → AllPass n test ⊎ ((i : ℕ) × FailsFirst n test i)
pass_or_fails zero test = inl (λ i l. absurd (omega arith))
pass_or_fails (suc n) test = ⊎_elim (λ all. last all (true_or_false (test n))) (λ f. inr (f.0, wider f.0 f.1)) (pass_or_fails n test)
  where
    wider : (i : ℕ) → FailsFirst n test i → FailsFirst (suc n) test i
    wider i f = record { inside = omega (arith, f.inside); before = f.before; fails = f.fails }

    all_but : AllPass n test → test n ≡ true → AllPass (suc n) test
    all_but all t i l = ⊎_elim (λ m. all i m) (λ e. rw e t) (below i l)
      where
        below : (i : ℕ) → i < suc n → (i < n) ⊎ (i ≡ n)
        below i l = ⊎_elim (λ m. inl m) (λ m. inr (omega arith)) (lt_or_le i n)

    last : AllPass n test → (test n ≡ true) ⊎ (test n ≡ false) → AllPass (suc n) test ⊎ ((i : ℕ) × FailsFirst (suc n) test i)
    last all (inl t) = inl (all_but all t)
    last all (inr f) = inr (n, record { inside = omega arith; before = all; fails = f })

pub first_pass : (n : ℕ) (test : ℕ → Bool) → first_failing n test ≡ 0 → AllPass n test
first_pass n test e = ⊎_elim (λ all. all) (λ f. absurd (omega (arith, fails_first n test f.0 f.1))) (pass_or_fails n test)

pub first_fails : (n : ℕ) (test : ℕ → Bool) (i : ℕ) → first_failing n test ≡ suc i → FailsFirst n test i
first_fails n test i e =
    ⊎_elim (λ all. absurd (omega (arith, pass_first n test all)))
    (λ f. let q : f.0 ≡ i = omega (arith, fails_first n test f.0 f.1) in subst (FailsFirst n test) q f.1)
    (pass_or_fails n test)

-- the first position depends only on the tests at the n positions
pub first_ext : (n : ℕ) (t u : ℕ → Bool) → ((i : ℕ) → i < n → t i ≡ u i) → first_failing n t ≡ first_failing n u
first_ext n t u e =
    ⊎_elim (λ all. pass_first n t all ∙ sym (pass_first n u (λ i l. sym (e i l) ∙ all i l)))
    (λ f. fails_first n t f.0 f.1 ∙ sym (fails_first n u f.0 (moved f.0 f.1))) (pass_or_fails n t)
  where
    moved : (i : ℕ) → FailsFirst n t i → FailsFirst n u i
    moved i f = record {
      inside = f.inside;
      before = λ j l. sym (e j (omega (arith, f.inside))) ∙ f.before j l;
      fails = sym (e i f.inside) ∙ f.fails;
    }

-- ---- the answer as an option

pub position_none : {k : ℕ} → k ≡ 0 → position_of k ≡ None
unfolding position_of
position_none e = rw e refl

pub position_some : {k i : ℕ} → k ≡ suc i → position_of k ≡ Some (suc i)
unfolding position_of
position_some e = rw e refl

-- and back
pub none_position : (k : ℕ) → position_of k ≡ None → k ≡ 0
unfolding position_of
none_position zero e = refl
none_position (suc i) e = cc

pub some_position : (k p : ℕ) → position_of k ≡ Some p → (k ≡ p) × (0 < p)
unfolding position_of
some_position zero p e = cc
some_position (suc i) p e = let q : suc i ≡ p = cc in (q, omega arith)
