-- A link of a chain whose sentence is about activities, where a set collects those of which it holds: the set is empty exactly if
-- the sentence holds of none, and else its lowest member is the place. One law for refusals 6 and 19. Assumes nothing.
use Prim.Native.Nat.{ℕ, ◌^◌, ◌<◌}
use mathlib.Core.Path.{◌≡◌, ap, ◌∙◌}
use mathlib.Core.Logic.{⊎_elim, ◌↔◌}
use mathlib.Core.Bool.{true, cond}
use mathlib.Core.List.{List, ◌∷◌}
use native.Mathlib.Omega.{arith}
use borrow.Author.Tests.{eqb-true, eqb-false, eq-eqb}
use lib.Dec.{eqb}
use lib.Count.{count_trailing_zeros}
use lib.ListN.{get_or}
use Rattle.obligations.specs.Sets.{member}
use Rattle.obligations.proofs.BoolLaws.{true_or_false, false-not-true}
use Rattle.obligations.proofs.SetLaws.{member_none, no_members}
use Rattle.obligations.proofs.MemberLaws.{members_walk}
use Rattle.obligations.proofs.LowestLaws.{lowest_member_lem, none_below}
use Rattle.net.specs.Refusals.{Says}
use Rattle.net.specs.Sentences.{Sentence, lowest, Lowest}
use Rattle.net.proofs.SentenceLaws.{Told, told_link}
use Rattle.net.proofs.ChainLaws.{unless_at-passes}
use Rattle.walks.specs.Check.{lowest_member, none_in}

-- ---- the lowest member of a set is found by trailing zeros

pub lowest-is : (m : ℕ) → 0 < m → m < 2 ^ 32 → lowest_member m ≡ count_trailing_zeros 32 m
unfolding lowest_member
lowest-is m some small = ap (λ (l : List ℕ). get_or l 0 0) (members_walk m some small)

-- ---- sets of those of which a sentence holds

-- the members of m are those of which it holds
pub record Collects (m : ℕ) (Bad : ℕ → Type 0) : Type 0 where
  pub small : m < 2 ^ 32
  pub in_set : (a : ℕ) → (member m a ≡ true) ↔ Bad a

module _ {m : ℕ} {Bad : ℕ → Type 0} (c : Collects m Bad) where
  pub empty_none : m ≡ 0 → (a : ℕ) → Bad a → ⊥
  empty_none e a b = false-not-true (ap (λ (n : ℕ). member n a) e ∙ member_none a) ((c.in_set a).1 b)

  pub none_empty : ((a : ℕ) → Bad a → ⊥) → m ≡ 0
  none_empty none = no_members m c.small (λ k h. ⊎_elim (λ e. absurd (none k ((c.in_set k).0 e))) (λ e. e) (true_or_false (member m k)))

  pub lowest_bad : (m ≡ 0 → ⊥) → Lowest Bad (lowest_member m)
  lowest_bad n =
      let some : 0 < m = omega arith in
      rw (lowest-is m some c.small)
      (record { bad = (c.in_set (count_trailing_zeros 32 m)).0 (lowest_member_lem m some c.small); none_lower = λ b k h. false-not-true (none_below m b k) ((c.in_set b).1 h) })

  -- ---- the link

  module _ {A : Type 0} (refusal : ℕ → ℕ → A) (value : A) (number : ℕ) (ss : List Sentence) (rest : A) where
    pub none_in_link : (m ≡ 0 → Told refusal ss value rest) → Told refusal (lowest number Bad ∷ ss) value (cond (eqb m 0) rest (refusal number (lowest_member m)))
    none_in_link next =
        told_link refusal value (lowest number Bad) ss (eqb m 0) (lowest_member m) rest
        (λ e q l. empty_none (eqb-true m 0 e) q l.bad) (λ e. lowest_bad (eqb-false m 0 e)) (λ e. next (eqb-true m 0 e))

pub none_in-passes : (m n : ℕ) (rest : Says) → ((none_in m n rest).ok ≡ true) ↔ ((m ≡ 0) × (rest.ok ≡ true))
none_in-passes m n rest =
    let u = unless_at-passes (eqb m 0) n (lowest_member m) rest in
    ((λ e. (eqb-true m 0 (u.0 e).0, (u.0 e).1)), (λ w. u.1 (eq-eqb m 0 w.0, w.1)))
