-- The links of a chain whose sentences several calls share: where the test passes the sentence doesn't hold, and where it fails
-- it does. Assumes nothing.
use Prim.Native.Nat.{ℕ, suc, ◌<◌}
use native.Mathlib.Omega.{arith}
use mathlib.Core.Path.{◌≡◌, refl, ◌∙◌}
use mathlib.Core.Bool.{Bool, true, false, cond}
use mathlib.Core.List.{List, ◌∷◌}
use lib.Dec.{eqb, ltb}
use borrow.Author.Tests.{ltb-true, ltb-false}
use Rattle.obligations.specs.Limits.{activities}
use Rattle.obligations.specs.Tests.{first_failing}
use Rattle.obligations.specs.Trace.{first_no_activity, shaped}
use Rattle.obligations.proofs.BoolLaws.{false-not-true}
use Rattle.obligations.proofs.PositionLaws.{first_pass, first_fails}
use Rattle.obligations.proofs.TraceLaws.{no_activity_tests, shaped_facts, facts_shaped}
use Rattle.net.specs.Refusals.{disorderly, no_activity, wrong_ends}
use Rattle.net.specs.Sentences.{Sentence, first, First}
use Rattle.net.specs.Orderly.{Orderly, orderly}
use Rattle.net.specs.Common.{not_orderly, not_activities, not_shaped}
use Rattle.net.specs.declared.Net.{Net}
use Rattle.net.proofs.SentenceLaws.{Told, whole_link, first_link}
use Rattle.net.proofs.OrderlyLaws.{orderly_facts, facts_orderly}

-- the record's test, for every call that is given a net
pub orderly_none : (net : Net) → orderly net ≡ true → (Orderly net → ⊥) → ⊥
orderly_none net e f = f (orderly_facts net e)

pub orderly_some : (net : Net) → orderly net ≡ false → Orderly net → ⊥
orderly_some net e o = false-not-true e (facts_orderly net o)

module _ {A : Type 0} (refusal : ℕ → ℕ → A) (value : A) (ss : List Sentence) (rest : A) where
  pub orderly_link : (net : Net) → (orderly net ≡ true → Told refusal ss value rest)
      → Told refusal (not_orderly net ∷ ss) value (cond (orderly net) rest (refusal disorderly 0))
  orderly_link net next = whole_link refusal value disorderly (Orderly net → ⊥) ss (orderly net) rest (orderly_none net) (orderly_some net) next

  -- a test of each of n positions
  pub failing_link : (number n : ℕ) (test : ℕ → Bool) (Bad : ℕ → Type 0)
      → ((i : ℕ) → i < n → test i ≡ true → Bad i → ⊥) → ((i : ℕ) → i < n → test i ≡ false → Bad i) → (first_failing n test ≡ 0 → Told refusal ss value rest)
      → Told refusal (first number n Bad ∷ ss) value (cond (eqb (first_failing n test) 0) rest (refusal number (first_failing n test)))
  failing_link number n test Bad good bad next =
      first_link refusal value number n Bad ss (first_failing n test) rest
      (λ e i l b. good i l (first_pass n test e i l) b)
      (λ i e. at_first i (first_fails n test i e).inside (first_fails n test i e).fails (first_fails n test i e).before)
      next
    where
      at_first : (i : ℕ) → i < n → test i ≡ false → ((j : ℕ) → j < i → test j ≡ true) → First n Bad (suc i)
      at_first i l f before = record { others = i; inside = l; at_place = refl; bad = bad i l f; none_before = λ j k b. good j (omega arith) (before j k) b }

  pub activities_link : (n : ℕ) (activity_at : ℕ → ℕ) → (first_no_activity n activity_at ≡ 0 → Told refusal ss value rest)
      → Told refusal (not_activities n activity_at ∷ ss) value (cond (eqb (first_no_activity n activity_at) 0) rest (refusal no_activity (first_no_activity n activity_at)))
  activities_link n activity_at next =
      rw (no_activity_tests n activity_at)
      (failing_link no_activity n (λ i. ltb (activity_at i) activities) _ (λ i l t b. let k = ltb-true (activity_at i) activities t in omega arith) (λ i l t. ltb-false (activity_at i) activities t) (λ e. next (no_activity_tests n activity_at ∙ e)))

  pub shape_link : (net : Net) (n : ℕ) (activity_at : ℕ → ℕ) → (shaped net.start net.end n activity_at ≡ true → Told refusal ss value rest)
      → Told refusal (not_shaped net n activity_at ∷ ss) value (cond (shaped net.start net.end n activity_at) rest (refusal wrong_ends 0))
  shape_link net n activity_at next =
      whole_link refusal value wrong_ends _ ss (shaped net.start net.end n activity_at) rest
      (λ e f. f (shaped_facts net.start net.end n activity_at e)) (λ e h. false-not-true e (facts_shaped net.start net.end n activity_at h)) next
