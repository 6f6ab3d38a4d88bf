-- A set gathered from those of a list that pass a test: it is the set of them. The list is that of a set's members, or of all
-- activities. Assumes nothing.
use Rattle.std.proofs.Common.{ℕ, suc, zero, ◌≡◌, ◌<◌, ◌≤◌, ◌+◌, ◌^◌, ◌⊎◌, ◌↔◌, Bool, true, false, ◌&&◌, List, [], ◌∷◌, fold, filter, cond, arith, inl, inr, ⊎_elim, subst, sym, refl, ◌∙◌}
use mathlib.Core.List.Memᴰ
use mathlib.Core.List.{Memᴰ}
use Rattle.std.specs.List.{range_with_len}
use native.Mathlib.Nat.{eq-or-lt_of_le}
use borrow.Author.Tests.{eqb-true, eq-eqb}
use lib.Dec.{eqb}
use Rattle.obligations.specs.Sets.{member, members, single, union}
use Rattle.obligations.proofs.BoolLaws.{false-not-true, same_test, and_left, and_right, and_both, or_left, or_right, or_cases}
use Rattle.obligations.proofs.SetLaws.{member_none}
use Rattle.obligations.proofs.MemberLaws.{members_are}
use Rattle.walks.specs.Below.{with_if, those}
use Rattle.walks.proofs.BelowLaws.{member-with_if, with_if_lt, those_are}

-- the numbers from a on
in_range : (n a k : ℕ) → Memᴰ k (range_with_len a n) → (a ≤ k) × (k < a + n)
in_range zero a k m = absurd (Memᴰ.not-nil m)
in_range (suc n) a k m = ⊎_elim (λ e. (omega (arith, e), omega (arith, e))) (λ t. let f = in_range n (a + 1) k t in (omega (arith, f.0), omega (arith, f.1))) (Memᴰ.cases_cons m)

range_has : (n a k : ℕ) → a ≤ k → k < a + n → Memᴰ k (range_with_len a n)
range_has zero a k l h = absurd (omega (arith, l, h))
range_has (suc n) a k l h = ⊎_elim (λ e. Memᴰ.head (sym e)) (λ t. Memᴰ.tail (range_has n (a + 1) k (omega (arith, t)) (omega (arith, h)))) (eq-or-lt_of_le l)

module _ (test : ℕ → Bool) where
  -- those kept, and after a walk over more numbers those of them that pass
  unfoldable pub sifted : ℕ → List ℕ → ℕ
  sifted kept ks = fold (λ m b. with_if (test b) b m) kept ks

  -- the same, with those that pass taken out first
  pub sifted_filter : (kept : ℕ) (ks : List ℕ) → fold (λ m b. union m (single b)) kept (filter test ks) ≡ sifted kept ks
  unfolding sifted with_if
  sifted_filter kept [] = refl
  sifted_filter kept (b ∷ ks) = first (test b) ∙ sifted_filter (with_if (test b) b kept) ks
    where
      first : (t : Bool) → fold (λ m k. union m (single k)) kept (cond t (b ∷ filter test ks) (filter test ks)) ≡ fold (λ m k. union m (single k)) (with_if t b kept) (filter test ks)
      first true = refl
      first false = refl

  sifted_lt : (kept : ℕ) (ks : List ℕ) → kept < 2 ^ 32 → sifted kept ks < 2 ^ 32
  unfolding sifted
  sifted_lt kept [] h = h
  sifted_lt kept (b ∷ ks) h = sifted_lt (with_if (test b) b kept) ks (with_if_lt (test b) b kept h)

  -- a member of the outcome was kept before, or walked over and passes
  sifted_has : (ks : List ℕ) (kept k : ℕ) → ((b : ℕ) → Memᴰ b ks → b < 32) → member (sifted kept ks) k ≡ true → (member kept k ≡ true) ⊎ (Memᴰ k ks × (test k ≡ true))
  unfolding sifted
  sifted_has [] kept k small e = inl e
  sifted_has (b ∷ ks) kept k small e =
      ⊎_elim
      (λ h. ⊎_elim inl (λ t. let q = eqb-true b k (and_right (test b) (eqb b k) t) in inr (Memᴰ.head (sym q), subst (λ (j : ℕ). test j ≡ true) q (and_left (test b) (eqb b k) t)))
      (or_cases (member kept k) (test b && eqb b k) (sym (member-with_if (test b) b kept k (small b (Memᴰ.head refl))) ∙ h)))
      (λ w. inr (Memᴰ.tail w.0, w.1)) (sifted_has ks (with_if (test b) b kept) k (λ j m. small j (Memᴰ.tail m)) e)

  has_sifted : (ks : List ℕ) (kept k : ℕ) → ((b : ℕ) → Memᴰ b ks → b < 32) → (member kept k ≡ true) ⊎ (Memᴰ k ks × (test k ≡ true)) → member (sifted kept ks) k ≡ true
  unfolding sifted
  has_sifted [] kept k small (inl e) = e
  has_sifted [] kept k small (inr w) = absurd (Memᴰ.not-nil w.0)
  has_sifted (b ∷ ks) kept k small s = has_sifted ks (with_if (test b) b kept) k (λ j m. small j (Memᴰ.tail m)) (moved s)
    where
      here : (member kept k ≡ true) ⊎ (test b && eqb b k ≡ true) → member (with_if (test b) b kept) k ≡ true
      here h = member-with_if (test b) b kept k (small b (Memᴰ.head refl)) ∙ ⊎_elim (or_left (test b && eqb b k)) (or_right (member kept k)) h

      moved : (member kept k ≡ true) ⊎ (Memᴰ k (b ∷ ks) × (test k ≡ true)) → (member (with_if (test b) b kept) k ≡ true) ⊎ (Memᴰ k ks × (test k ≡ true))
      moved (inl e) = inl (here (inl e))
      moved (inr w) = ⊎_elim (λ q. inl (here (inr (and_both (subst (λ (j : ℕ). test j ≡ true) q w.1) (eq-eqb b k (sym q)))))) (λ t. inr (t, w.1)) (Memᴰ.cases_cons w.0)

  -- where the list has the activities that are in a class
  pub sifted_those : (class : ℕ → Bool) (ks : List ℕ) → ((k : ℕ) → Memᴰ k ks ↔ ((k < 32) × (class k ≡ true))) → sifted 0 ks ≡ those (λ b. class b && test b)
  sifted_those class ks are =
      those_are (λ b. class b && test b) (sifted 0 ks) (sifted_lt 0 ks (omega arith))
      (λ k h. same_test (member (sifted 0 ks) k) (class k && test k)
      (λ e. ⊎_elim (λ z. absurd (false-not-true (member_none k) z)) (λ w. and_both ((are k).0 w.0).1 w.1) (sifted_has ks 0 k below e))
      (λ e. has_sifted ks 0 k below (inr ((are k).1 (h, and_left (class k) (test k) e), and_right (class k) (test k) e))))
    where
      below : (b : ℕ) → Memᴰ b ks → b < 32
      below b m = ((are b).0 m).0

  pub sifted_members : (set : ℕ) → fold (λ m b. union m (single b)) 0 (filter test (members set)) ≡ those (λ b. member set b && test b)
  sifted_members set = sifted_filter 0 (members set) ∙ sifted_those (member set) (members set) (members_are set)

  pub sifted_all : fold (λ m b. union m (single b)) 0 (filter test (range_with_len 0 32)) ≡ those test
  sifted_all = sifted_filter 0 (range_with_len 0 32) ∙ sifted_those (λ b. true) (range_with_len 0 32) (λ k. ((λ m. ((in_range 32 0 k m).1, refl)), (λ w. range_has 32 0 k (omega arith) w.0)))
