-- The tests on the activities of a trace or a sequence, said of each position. Assumes nothing.
use Rattle.std.proofs.Common.{ℕ, zero, suc, add-one, Option, option_map, ◌+◌, ◌≤◌, ◌<◌, ◌≡◌, refl, sym, ap, ap₂, ◌∙◌, ◌↔◌, ◌⊎◌, inl, inr, ⊎_elim, Bool, true, false, ◌&&◌, arith, eq-eqb, ne_eqb, eqb-true, le-leb, leb-true, ltb-true, lt-ltb, eqb, leb, ltb}
use mathlib.Core.Bool.{beq, not}
use borrow.Author.Tests.{lt-leb}
use Rattle.obligations.specs.Limits.{activities}
use Rattle.obligations.specs.Tests.{first_from, first_failing, position_of}
use Rattle.obligations.specs.Trace.{first_no_activity, ends_agree, shaped, Shaped}
use Rattle.std.proofs.lemmas.Iterator.Adapters.{option_map_id}
use Rattle.std.specs.List.{list_all, range_with_len, find}
use Rattle.obligations.proofs.BoolLaws.{and_left, and_right, and_both, true_or_false, false-not-true}
use Rattle.obligations.proofs.SetLaws.{lt_or_le}
use Rattle.obligations.proofs.PositionLaws.{AllPass, pass_first, first_pass, first_ext}

-- two tests of equality agree exactly if one equation holds where the other does
pub agree_iff : (a b c d : ℕ) → (beq (eqb a b) (eqb c d) ≡ true) ↔ ((a ≡ b) ↔ (c ≡ d))
agree_iff a b c d = (go (true_or_false (eqb a b)) (true_or_false (eqb c d)), back (true_or_false (eqb a b)) (true_or_false (eqb c d)))
  where
    go : (eqb a b ≡ true) ⊎ (eqb a b ≡ false) → (eqb c d ≡ true) ⊎ (eqb c d ≡ false) → beq (eqb a b) (eqb c d) ≡ true → (a ≡ b) ↔ (c ≡ d)
    go (inl e) (inl f) h = ((λ p. eqb-true c d f), (λ p. eqb-true a b e))
    go (inl e) (inr f) h = absurd (false-not-true (ap₂ beq e f) h)
    go (inr e) (inl f) h = absurd (false-not-true (ap₂ beq e f) h)
    go (inr e) (inr f) h = ((λ p. absurd (false-not-true e (eq-eqb a b p))), (λ p. absurd (false-not-true f (eq-eqb c d p))))

    back : (eqb a b ≡ true) ⊎ (eqb a b ≡ false) → (eqb c d ≡ true) ⊎ (eqb c d ≡ false) → (a ≡ b) ↔ (c ≡ d) → beq (eqb a b) (eqb c d) ≡ true
    back (inl e) (inl f) h = rw (e, f)
    back (inl e) (inr f) h = absurd (false-not-true f (eq-eqb c d (h.0 (eqb-true a b e))))
    back (inr e) (inl f) h = absurd (false-not-true e (eq-eqb a b (h.1 (eqb-true c d f))))
    back (inr e) (inr f) h = rw (e, f)

module _ (start end n : ℕ) (activity_at : ℕ → ℕ) where
  pub shaped_facts : shaped start end n activity_at ≡ true → Shaped start end n activity_at
  unfolding shaped ends_agree
  shaped_facts h =
      let two = and_left (leb 2 n) (eqb (first_failing n (ends_agree start end n activity_at)) 0) h in
      let each = first_pass n (ends_agree start end n activity_at) (eqb-true _ 0 (and_right (leb 2 n) (eqb (first_failing n (ends_agree start end n activity_at)) 0) h)) in
      record {
        two = leb-true 2 n two;
        start_first_only = λ i l. (agree_iff (activity_at i) start i 0).0 (and_left (beq (eqb (activity_at i) start) (eqb i 0)) (beq (eqb (activity_at i) end) (eqb (i + 1) n)) (each i l));
        end_last_only = λ i l. (agree_iff (activity_at i) end (i + 1) n).0 (and_right (beq (eqb (activity_at i) start) (eqb i 0)) (beq (eqb (activity_at i) end) (eqb (i + 1) n)) (each i l));
      }

  pub facts_shaped : Shaped start end n activity_at → shaped start end n activity_at ≡ true
  unfolding shaped ends_agree
  facts_shaped f =
      and_both (le-leb 2 n f.two)
      (eq-eqb (first_failing n (ends_agree start end n activity_at)) 0 (pass_first n (ends_agree start end n activity_at) (λ i l.
      and_both ((agree_iff (activity_at i) start i 0).1 (f.start_first_only i l)) ((agree_iff (activity_at i) end (i + 1) n).1 (f.end_last_only i l)))))

  -- a trace of two positions or more has that shape where each position agrees
  pub ends_agree_lem : 2 ≤ n → AllPass n (ends_agree start end n activity_at) → shaped start end n activity_at ≡ true
  unfolding shaped
  ends_agree_lem h all = rw (le-leb 2 n h, pass_first n (ends_agree start end n activity_at) all)

-- ---- what the two walks answer

-- the test of each position
pub no_activity_tests : (n : ℕ) (activity_at : ℕ → ℕ) → first_no_activity n activity_at ≡ first_failing n (λ i. ltb (activity_at i) activities)
unfolding first_no_activity
no_activity_tests n activity_at = refl

-- what `find` finds, counted from 1
found : (test : ℕ → Bool) (k n : ℕ) → option_map (λ i. i + 1) (find (λ i. not (test i)) (range_with_len k n)) ≡ position_of (first_from k n test)
unfolding first_from position_of
found test k zero = refl
found test k (suc n) = ⊎_elim (λ t. rw t (rw (add-one k) (found test (suc k) n))) (λ f. rw f (rw (add-one k) refl)) (true_or_false (test k))

pub found_first : (n : ℕ) (activity_at : ℕ → ℕ) (r : Option ℕ) → option_map (λ (i : ℕ). i) r ≡ find (λ i. not (ltb (activity_at i) 32)) (range_with_len 0 n) → option_map (λ i. i + 1) r ≡ position_of (first_no_activity n activity_at)
unfolding first_no_activity first_failing
found_first n activity_at r e = ap (option_map (λ i. i + 1)) (sym (option_map_id r) ∙ e) ∙ found (λ i. ltb (activity_at i) 32) 0 n

-- `all` of the positions says whether the test fails at none
all_none : (test : ℕ → Bool) (k n : ℕ) → list_all test (range_with_len k n) ≡ eqb (first_from k n test) 0
unfolding first_from
all_none test k zero = refl
all_none test k (suc n) = ⊎_elim (λ t. rw t (rw (add-one k) (all_none test (suc k) n))) (λ f. rw f (sym (ne_eqb (suc k) 0 (λ e. omega arith)))) (true_or_false (test k))

pub all_agree : (start end n : ℕ) (activity_at : ℕ → ℕ) → 2 ≤ n → list_all (ends_agree start end n activity_at) (range_with_len 0 n) ≡ shaped start end n activity_at
unfolding shaped first_failing
all_agree start end n activity_at h = rw (le-leb 2 n h) (all_none (ends_agree start end n activity_at) 0 n)

-- one position more passes
pub pass_more : (test : ℕ → Bool) (i : ℕ) → AllPass i test → test i ≡ true → AllPass (i + 1) test
pass_more test i all t j l = ⊎_elim (λ m. all j m) (λ m. let e : j ≡ i = omega arith in rw e t) (lt_or_le j i)

pub too_short : (start end n : ℕ) (activity_at : ℕ → ℕ) → n < 2 → shaped start end n activity_at ≡ false
unfolding shaped
too_short start end n activity_at h = rw (lt-leb 2 n h)

-- ---- the first number that is no activity

pub no_activity_ext : (n : ℕ) (f g : ℕ → ℕ) → ((i : ℕ) → i < n → f i ≡ g i) → first_no_activity n f ≡ first_no_activity n g
unfolding first_no_activity
no_activity_ext n f g e = first_ext n (λ i. ltb (f i) 32) (λ i. ltb (g i) 32) (λ i l. ap (λ (a : ℕ). ltb a 32) (e i l))

pub activities_below : (n : ℕ) (activity_at : ℕ → ℕ) → first_no_activity n activity_at ≡ 0 → (i : ℕ) → i < n → activity_at i < 32
unfolding first_no_activity
activities_below n activity_at e i l = ltb-true (activity_at i) 32 (first_pass n (λ j. ltb (activity_at j) 32) e i l)

-- shape depends only on the activities at the n positions
pub shaped_ext : (start end n : ℕ) (f g : ℕ → ℕ) → ((i : ℕ) → i < n → f i ≡ g i) → shaped start end n f ≡ shaped start end n g
unfolding shaped ends_agree
shaped_ext start end n f g e =
    ap (λ (k : ℕ). leb 2 n && eqb k 0)
    (first_ext n (ends_agree start end n f) (ends_agree start end n g) (λ i l. ap (λ (a : ℕ). beq (eqb a start) (eqb i 0) && beq (eqb a end) (eqb (i + 1) n)) (e i l)))

pub below_activities : (n : ℕ) (activity_at : ℕ → ℕ) → ((i : ℕ) → i < n → activity_at i < 32) → first_no_activity n activity_at ≡ 0
unfolding first_no_activity
below_activities n activity_at h = pass_first n (λ j. ltb (activity_at j) 32) (λ i l. lt-ltb (activity_at i) 32 (h i l))
