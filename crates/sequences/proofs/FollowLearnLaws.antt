-- Following is learning the trace's sequence: the two chains agree link by link, since refusals 9, 10 and 11 never hold of a
-- sequence in which each position hands one obligation to the next. Assumes nothing.
use Prim.Native.Nat.{ℕ, zero, suc, ◌+◌, ◌*◌, ◌%◌, ◌<◌}
use mathlib.Core.Path.{◌≡◌, refl, sym, ap, subst, ◌∙◌}
use mathlib.Core.Bool.{true}
use mathlib.Core.List.{List, [], ◌∷◌}
use mathlib.Core.Logic.{◌↔◌, ⊎_elim}
use native.Mathlib.Decide.{ℕ_discrete as dec_eq}
use native.Mathlib.Omega.{arith}
use borrow.Author.Tests.{eq-eqb, ne_eqb, le-leb, leb-true}
use lib.Dec.{leb}
use lib.ListN.{length, get_or}
use Rattle.obligations.specs.Limits.{positions}
use Rattle.obligations.specs.Sets.{single}
use Rattle.obligations.specs.State.{all_zero}
use Rattle.obligations.specs.Trace.{first_no_activity, shaped}
use Rattle.obligations.specs.Sequence.{words, at, ψ, first_impossible}
use Rattle.obligations.specs.declared.sequence.Binding.{Binding}
use Rattle.obligations.proofs.BoolLaws.{same_test, true_or_false}
use Rattle.obligations.proofs.SetLaws.{lt_or_le}
use Rattle.obligations.proofs.MemberLaws.{single-filled}
use Rattle.obligations.proofs.TraceLaws.{no_activity_ext, activities_below, shaped_ext, shaped_facts}
use Rattle.obligations.proofs.SequenceLaws.{bindings-words, length-words, completes_each, completes-zero, each_from-possible}
use Rattle.net.specs.Refusals.{Says}
use Rattle.net.specs.Orderly.{orderly}
use Rattle.net.specs.declared.Net.{Net}
use Rattle.net.specs.Chains.{unless, none_at}
use Rattle.sequences.specs.Limits.{words_within, within_limits, trace_within_limits}
use Rattle.net.specs.Traces.{trace_within}
use Rattle.sequences.specs.Learn.{first_wrongly_empty, gain_says, learn_positions, learn_says, learn_gives}
use Rattle.sequences.specs.Follow.{followed_from, followed, follow_positions, follow_says, follow_gives}
use Rattle.sequences.specs.Statements.{FollowIsLearn}
use Rattle.sequences.proofs.AcceptLaws.{EmptyWhere, facts_empty}
use Rattle.sequences.proofs.FollowLaws.{length-followed, followed-activity, followed-completes, follow_ends, follow_gains}
use Rattle.sequences.proofs.LearnLaws.{learn_ends}

-- ---- the sets of the sequence

followed-first : (x : ℕ) (t : List ℕ) → 0 < length t → (at (followed_from x t) 0).input ≡ x
unfolding followed_from
followed-first x [] h = absurd (omega arith)
followed-first x (a ∷ []) h = refl
followed-first x (a ∷ b ∷ t) h = refl

followed-input : (x : ℕ) (t : List ℕ) (i : ℕ) → suc i < length t → (at (followed_from x t) (suc i)).input ≡ single (get_or t i 0)
unfolding followed_from
followed-input x [] i h = absurd (omega arith)
followed-input x (a ∷ []) i h = absurd (omega arith)
followed-input x (a ∷ b ∷ t) zero h = followed-first (single a) (b ∷ t) (omega arith)
followed-input x (a ∷ b ∷ t) (suc i) h = followed-input (single a) (b ∷ t) i (omega arith)

followed-output : (x : ℕ) (t : List ℕ) (i : ℕ) → suc i < length t → (at (followed_from x t) i).output ≡ single (get_or t (suc i) 0)
unfolding followed_from
followed-output x [] i h = absurd (omega arith)
followed-output x (a ∷ []) i h = absurd (omega arith)
followed-output x (a ∷ b ∷ t) zero h = refl
followed-output x (a ∷ b ∷ t) (suc i) h = followed-output (single a) (b ∷ t) i (omega arith)

followed_last : (x : ℕ) (t : List ℕ) (i : ℕ) → suc i ≡ length t → (at (followed_from x t) i).output ≡ 0
unfolding followed_from
followed_last x [] i h = absurd (omega arith)
followed_last x (a ∷ []) zero h = refl
followed_last x (a ∷ []) (suc i) h = absurd (omega arith)
followed_last x (a ∷ b ∷ t) zero h = absurd (omega arith)
followed_last x (a ∷ b ∷ t) (suc i) h = followed_last (single a) (b ∷ t) i (omega arith)

module _ (t : List ℕ) (below : (i : ℕ) → i < length t → get_or t i 0 < 32) where
  inputs_where : (i : ℕ) → i < length t → ((at (followed t) i).input ≡ 0) ↔ (i ≡ 0)
  inputs_where zero h = ((λ e. refl), (λ e. followed-first 0 t h))
  inputs_where (suc i) h = ((λ e. absurd (single-filled (get_or t i 0) (below i (omega arith)) (sym (followed-input 0 t i h) ∙ e))), (λ e. absurd (omega arith)))

  outputs_where : (i : ℕ) → i < length t → ((at (followed t) i).output ≡ 0) ↔ (i + 1 ≡ length t)
  outputs_where i h =
      ⊎_elim
      (λ l. ((λ e. absurd (single-filled (get_or t (suc i) 0) (below (suc i) (omega arith)) (sym (followed-output 0 t i (omega arith)) ∙ e))), (λ e. absurd (omega arith))))
      (λ l. ((λ e. omega arith), (λ e. followed_last 0 t i (omega arith))))
      (lt_or_le (i + 1) (length t))

  -- X is empty at the first position only, and Y at the last only
  pub followed_empty_where : EmptyWhere (followed t)
  followed_empty_where = record {
    inputs = λ i l. inputs_where i (subst (λ (n : ℕ). i < n) (length-followed 0 t) l);
    outputs = λ i l. subst (λ (n : ℕ). ((at (followed t) i).output ≡ 0) ↔ (i + 1 ≡ n)) (sym (length-followed 0 t)) (outputs_where i (subst (λ (n : ℕ). i < n) (length-followed 0 t) l));
  }

  followed_empty : first_wrongly_empty (followed t) ≡ 0
  followed_empty = facts_empty (followed t) followed_empty_where

module _ (t : List ℕ) (below : (i : ℕ) → i < length t → get_or t i 0 < 32) (some : 0 < length t) where
  followed_possible : first_impossible (followed t) ≡ 0
  followed_possible = each_from-possible (followed t) (completes_each _ (followed t) (followed-completes t below some))

  followed_zero : all_zero (ψ (followed t)) ≡ true
  followed_zero = completes-zero _ (followed t) (followed-completes t below some)

-- ---- link by link

same_shape : (start end : ℕ) (t : List ℕ) → shaped start end (length (followed t)) (λ i. (at (followed t) i).activity) ≡ shaped start end (length t) (λ i. get_or t i 0)
same_shape start end t =
    ap (λ (k : ℕ). shaped start end k (λ i. (at (followed t) i).activity)) (length-followed 0 t)
    ∙ shaped_ext start end (length t) (λ i. (at (followed t) i).activity) (λ i. get_or t i 0) (followed-activity 0 t)

same_activities : (t : List ℕ) → first_no_activity (length (followed t)) (λ i. (at (followed t) i).activity) ≡ first_no_activity (length t) (λ i. get_or t i 0)
same_activities t =
    ap (λ (k : ℕ). first_no_activity k (λ i. (at (followed t) i).activity)) (length-followed 0 t)
    ∙ no_activity_ext (length t) (λ i. (at (followed t) i).activity) (λ i. get_or t i 0) (followed-activity 0 t)

same_limits : (t : List ℕ) → words_within (words (followed t)) ≡ trace_within t
unfolding words_within
same_limits t =
    let l : length (words (followed t)) ≡ 3 * length t = length-words (followed t) ∙ ap (λ (k : ℕ). 3 * k) (length-followed 0 t) in
    rw (l, eq-eqb (3 * length t % 3) 0 (omega arith))
    (same_test (leb (3 * length t) (3 * positions)) (leb (length t) positions) (λ e. le-leb (length t) positions (omega (arith, leb-true (3 * length t) (3 * positions) e))) (λ e. le-leb (3 * length t) (3 * positions) (omega (arith, leb-true (length t) positions e))))

-- each chain from refusal 7 on, by its tests
learn-fits : (net : Net) (s : List Binding) → shaped net.start net.end (length s) (λ i. (at s i).activity) ≡ true → first_wrongly_empty s ≡ 0 → first_impossible s ≡ 0 → all_zero (ψ s) ≡ true
    → learn_positions net s ≡ gain_says net s
unfolding learn_positions
learn-fits net s h e p z = rw (h, e, p, z)

same-positions : (net : Net) (t : List ℕ) → first_no_activity (length t) (λ i. get_or t i 0) ≡ 0 → follow_positions net t ≡ learn_positions net (followed t)
same-positions net t e =
    ⊎_elim good (λ f. sym (follow_ends net t f) ∙ learn_ends net (followed t) (same_shape net.start net.end t ∙ f)) (true_or_false (shaped net.start net.end (length t) (λ i. get_or t i 0)))
  where
    good : shaped net.start net.end (length t) (λ i. get_or t i 0) ≡ true → follow_positions net t ≡ learn_positions net (followed t)
    good h =
        let below = activities_below (length t) (λ i. get_or t i 0) e in
        let two = (shaped_facts net.start net.end (length t) (λ i. get_or t i 0) h).two in
        let some : 0 < length t = omega arith in
        sym (follow_gains net t h) ∙ sym (learn-fits net (followed t) (same_shape net.start net.end t ∙ h) (followed_empty t below) (followed_possible t below some) (followed_zero t below some))

pub follow_says_lem : (net : Net) (t : List ℕ) → follow_says net t ≡ learn_says net (words (followed t))
unfolding follow_says learn_says trace_within_limits within_limits
follow_says_lem net t = rw (bindings-words (followed t), same_limits t, same_activities t) (ap (λ (r : Says). unless (orderly net) 2 (unless (trace_within t) 3 r)) link)
  where
    link : none_at (first_no_activity (length t) (λ i. get_or t i 0)) 4 (follow_positions net t) ≡ none_at (first_no_activity (length t) (λ i. get_or t i 0)) 4 (learn_positions net (followed t))
    link = elim (dec_eq (first_no_activity (length t) (λ i. get_or t i 0)) 0) [
      | yes e ↦ ap (none_at (first_no_activity (length t) (λ i. get_or t i 0)) 4) (same-positions net t e)
      | no d ↦ rw (ne_eqb (first_no_activity (length t) (λ i. get_or t i 0)) 0 d)
    ]

pub follow-is-learn : (net : Net) (t : List ℕ) → FollowIsLearn net t
unfolding follow_gives learn_gives
follow-is-learn net t = record {
  says = follow_says_lem net t;
  gives = rw (follow_says_lem net t, bindings-words (followed t));
}
