-- Learn, follow and judge answer as their refusals are listed: each test of a call's chain fails exactly where its sentence holds,
-- given that the tests before it have passed. Assumes nothing.
use Prim.Native.Nat.{ℕ, ◌*◌, ◌/◌, ◌%◌, ◌<◌}
use mathlib.Core.Path.{◌≡◌, refl, ap, subst, ◌∙◌}
use mathlib.Core.Bool.{true, false, ◌&&◌}
use mathlib.Core.List.{List, [], ◌∷◌}
use mathlib.Core.Logic.{◌⊎◌, inl, inr, ⊎_elim}
use native.Mathlib.Decide.{ℕ_discrete as dec_eq}
use native.Mathlib.Omega.{arith}
use borrow.Author.Tests.{leb-true, leb-false}
use lib.ListN.{length}
use Rattle.obligations.specs.Limits.{positions}
use Rattle.obligations.specs.State.{nothing, all_zero}
use Rattle.obligations.specs.Trace.{shaped}
use Rattle.obligations.specs.Sequence.{bindings, ψ, NothingLeft, possible_at, first_impossible}
use Rattle.obligations.specs.declared.sequence.Binding.{Binding}
use Rattle.obligations.proofs.BoolLaws.{and_left, and_right, and_both, false-not-true}
use Rattle.obligations.proofs.SetLaws.{lt_or_le}
use Rattle.obligations.proofs.TraceLaws.{shaped_facts, activities_below, shaped_ext}
use Rattle.obligations.proofs.SequenceLaws.{possible_at_lem, impossible_tests, zero_left, length-bindings}
use Rattle.net.specs.Refusals.{Says, accepted, refused, outside_limits, missing_set, wrongly_empty, not_possible, left_over, full_side, count_too_high}
use Rattle.net.specs.Sentences.{Sentence, first, AsListed}
use Rattle.net.specs.Chains.{unless, none_at}
use Rattle.net.specs.Orderly.{orderly}
use Rattle.net.specs.Traces.{activity_in, trace_within, no_activity_in}
use Rattle.net.specs.declared.Net.{Net}
use Rattle.net.specs.declared.sides.Side.TheVariants.{Input, Output}
use Rattle.net.proofs.SentenceLaws.{Told, told_end, whole_link, chain_listed}
use Rattle.net.proofs.CommonLaws.{orderly_link, failing_link, activities_link, shape_link}
use Rattle.walks.proofs.CheckLaws.{passing_link}
use Rattle.sequences.specs.Limits.{activity_of, not_sequence, long_trace, words_within, within_limits, trace_within_limits}
use Rattle.sequences.specs.Run.{Impossible, not_all_possible, obligations_left, largest_total}
use Rattle.sequences.specs.Gain.{Fits, Countable, not_fitting, not_countable, fits, countable}
use Rattle.sequences.specs.Learn.{WronglyEmpty, learn_refusals, empty_agree, first_wrongly_empty, new_sets, gain_says, learn_positions, learn_says}
use Rattle.sequences.specs.Follow.{followed, follow_refusals, follow_positions, follow_says}
use Rattle.sequences.specs.Judge.{Missing, judge_refusals, on_side_at, first_missing, run_says, judge_positions, judge_says}
use Rattle.sequences.proofs.LimitLaws.{words_uneven, words_many, words_fit}
use Rattle.sequences.proofs.GrowthLaws.{Activities}
use Rattle.sequences.proofs.FitLaws.{Placed, fits_exactly}
use Rattle.sequences.proofs.CountLaws.{countable_exactly}
use Rattle.sequences.proofs.AcceptLaws.{empty_facts, well_placed, agree_exactly}
use Rattle.sequences.proofs.FollowLaws.{length-followed, followed-activity}
use Rattle.sequences.proofs.FollowLearnLaws.{followed_empty_where}

-- ---- 3

words_none : (ws : List ℕ) → words_within ws ≡ true → (length ws % 3 ≡ 0 → ⊥) ⊎ (positions < length (bindings ws)) → ⊥
words_none ws e (inl d) = false-not-true (words_uneven ws d) e
words_none ws e (inr l) = elim (dec_eq (length ws % 3) 0) [
  | yes q ↦ false-not-true (words_many ws (omega (arith, length-bindings ws (length ws / 3) (omega arith)))) e
  | no d ↦ false-not-true (words_uneven ws d) e
]

words_some : (ws : List ℕ) → words_within ws ≡ false → (length ws % 3 ≡ 0 → ⊥) ⊎ (positions < length (bindings ws))
words_some ws e = elim (dec_eq (length ws % 3) 0) [
  | yes q ↦ ⊎_elim (λ l. inr (omega (arith, length-bindings ws (length ws / 3) (omega arith)))) (λ l. absurd (false-not-true e (words_fit ws q l))) (lt_or_le (3 * positions) (length ws))
  | no d ↦ inl d
]

-- ---- the links that learn and judge share

module _ (value : Says) (ss : List Sentence) (rest : Says) where
  words_link : (ws : List ℕ) → (words_within ws ≡ true → Told refused ss value rest) → Told refused (not_sequence ws ∷ ss) value (unless (words_within ws) outside_limits rest)
  words_link ws next = whole_link refused value outside_limits _ ss (words_within ws) rest (words_none ws) (words_some ws) next

  possible_link : (s : List Binding) → (first_impossible s ≡ 0 → Told refused ss value rest) → Told refused (not_all_possible s ∷ ss) value (none_at (first_impossible s) not_possible rest)
  possible_link s next =
      rw (impossible_tests s)
      (failing_link refused value ss rest not_possible (length s) (possible_at s) (Impossible s)
      (λ i l t b. b ((possible_at_lem s i).0 t)) (λ i l t w. false-not-true t ((possible_at_lem s i).1 w)) (λ e. next (impossible_tests s ∙ e)))

  left_link : (s : List Binding) → (all_zero (ψ s) ≡ true → Told refused ss value rest) → Told refused (obligations_left s ∷ ss) value (unless (all_zero (ψ s)) left_over rest)
  left_link s next =
      whole_link refused value left_over (NothingLeft (ψ s) → ⊥) ss (all_zero (ψ s)) rest (λ e f. f ((zero_left s).0 e)) (λ e z. false-not-true e ((zero_left s).1 z)) next

  fit_link : (net : Net) (s : List Binding) → orderly net ≡ true → Activities s → Placed net s → (fits net s ≡ true → Told refused ss value rest)
      → Told refused (not_fitting net s ∷ ss) value (unless (fits net s) full_side rest)
  fit_link net s o a p next =
      whole_link refused value full_side (Fits net s → ⊥) ss (fits net s) rest (λ e f. f ((fits_exactly net s o a p).0 e)) (λ e w. false-not-true e ((fits_exactly net s o a p).1 w)) next

  count_link : (net : Net) (s : List Binding) → orderly net ≡ true → Activities s → fits net s ≡ true → (countable net s ≡ true → Told refused ss value rest)
      → Told refused (not_countable net s ∷ ss) value (unless (countable net s) count_too_high rest)
  count_link net s o a f next =
      whole_link refused value count_too_high (Countable net s → ⊥) ss (countable net s) rest (λ e g. g ((countable_exactly net s o a f).0 e)) (λ e c. false-not-true e ((countable_exactly net s o a f).1 c)) next

  empty_link : (s : List Binding) → (first_wrongly_empty s ≡ 0 → Told refused ss value rest) → Told refused (first wrongly_empty (length s) (WronglyEmpty s) ∷ ss) value (none_at (first_wrongly_empty s) wrongly_empty rest)
  unfolding first_wrongly_empty
  empty_link s next =
      failing_link refused value ss rest wrongly_empty (length s) (empty_agree s) (WronglyEmpty s)
      (λ i l t b. b ((agree_exactly s i).0 t)) (λ i l t w. false-not-true t ((agree_exactly s i).1 w)) next

  missing_link : (net : Net) (s : List Binding) → (first_missing net s ≡ 0 → Told refused ss value rest)
      → Told refused (first missing_set (length s) (Missing net s) ∷ ss) value (none_at (first_missing net s) missing_set rest)
  unfolding first_missing on_side_at
  missing_link net s next =
      failing_link refused value ss rest missing_set (length s) (λ i. on_side_at net Input s i && on_side_at net Output s i) (Missing net s)
      (λ i l t b. b (and_left (on_side_at net Input s i) (on_side_at net Output s i) t, and_right (on_side_at net Input s i) (on_side_at net Output s i) t))
      (λ i l t w. false-not-true t (and_both w.0 w.1)) next

-- 12 and 21, the last links of learn and of follow
gain-told : (net : Net) (s : List Binding) → orderly net ≡ true → Activities s → Placed net s → Told refused (not_fitting net s ∷ not_countable net s ∷ []) (accepted (new_sets net s)) (gain_says net s)
gain-told net s o a p =
    let value = accepted (new_sets net s) in
    fit_link value _ _ net s o a p
    (λ f. count_link value [] _ net s o a f
    (λ c. told_end refused value))

-- ---- learn

pub learn-told : (net : Net) (ws : List ℕ) → Told refused (learn_refusals net ws) (accepted (new_sets net (bindings ws))) (learn_says net ws)
unfolding learn_says within_limits learn_positions
learn-told net ws =
    let s = bindings ws in
    let value = accepted (new_sets net s) in
    orderly_link refused value _ _ net
    (λ o. words_link value _ _ ws
    (λ w. activities_link refused value _ _ (length s) (activity_of s)
    (λ a. shape_link refused value _ _ net (length s) (activity_of s)
    (λ h. empty_link value _ _ s
    (λ e. possible_link value _ _ s
    (λ p. left_link value _ _ s
    (λ z. gain-told net s o (activities_below (length s) (activity_of s) a) (well_placed net s (shaped_facts net.start net.end (length s) (activity_of s) h) (empty_facts s e)))))))))

pub learn-listed : (net : Net) (ws : List ℕ) → AsListed refused (learn_refusals net ws) (learn_says net ws)
learn-listed net ws = chain_listed (learn_refusals net ws) refl (new_sets net (bindings ws)) (learn-told net ws)

-- ---- follow

module _ (net : Net) (trace : List ℕ) where
  followed_below : no_activity_in trace ≡ 0 → Activities (followed trace)
  followed_below a i l =
      let h : i < length trace = subst (λ (n : ℕ). i < n) (length-followed 0 trace) l in
      rw (followed-activity 0 trace i h) (activities_below (length trace) (activity_in trace) a i h)

  -- the sets of a trace's sequence may all stand where they have to
  followed_placed : no_activity_in trace ≡ 0 → shaped net.start net.end (length trace) (activity_in trace) ≡ true → Placed net (followed trace)
  followed_placed a h =
      let s = followed trace in
      well_placed net s
      (shaped_facts net.start net.end (length s) (activity_of s)
      (ap (λ (k : ℕ). shaped net.start net.end k (activity_of s)) (length-followed 0 trace)
      ∙ shaped_ext net.start net.end (length trace) (activity_of s) (activity_in trace) (followed-activity 0 trace) ∙ h))
      (followed_empty_where trace (activities_below (length trace) (activity_in trace) a))

  trace_link : (value : Says) (ss : List Sentence) (rest : Says) → (trace_within trace ≡ true → Told refused ss value rest) → Told refused (long_trace trace ∷ ss) value (unless (trace_within trace) outside_limits rest)
  trace_link value ss rest next =
      whole_link refused value outside_limits _ ss (trace_within trace) rest (λ e l. let m = leb-true (length trace) positions e in omega arith) (λ e. leb-false (length trace) positions e) next

  pub follow_told : Told refused (follow_refusals net trace) (accepted (new_sets net (followed trace))) (follow_says net trace)
  unfolding follow_says trace_within_limits follow_positions
  follow_told =
      let s = followed trace in
      let value = accepted (new_sets net s) in
      orderly_link refused value _ _ net
      (λ o. trace_link value _ _
      (λ w. activities_link refused value _ _ (length trace) (activity_in trace)
      (λ a. shape_link refused value _ _ net (length trace) (activity_in trace)
      (λ h. gain-told net s o (followed_below a) (followed_placed a h)))))

  pub follow_listed : AsListed refused (follow_refusals net trace) (follow_says net trace)
  follow_listed = chain_listed (follow_refusals net trace) refl (new_sets net (followed trace)) follow_told

-- ---- judge

pub judge-told : (net : Net) (ws : List ℕ) → Told refused (judge_refusals net ws) (accepted (largest_total nothing (bindings ws))) (judge_says net ws)
unfolding judge_says within_limits judge_positions run_says
judge-told net ws =
    let s = bindings ws in
    let value = accepted (largest_total nothing s) in
    orderly_link refused value _ _ net
    (λ o. words_link value _ _ ws
    (λ w. activities_link refused value _ _ (length s) (activity_of s)
    (λ a. passing_link net o refused value _ _
    (λ l. shape_link refused value _ _ net (length s) (activity_of s)
    (λ h. missing_link value _ _ net s
    (λ m. possible_link value _ _ s
    (λ p. left_link value [] _ s
    (λ z. told_end refused value))))))))

pub judge-listed : (net : Net) (ws : List ℕ) → AsListed refused (judge_refusals net ws) (judge_says net ws)
judge-listed net ws = chain_listed (judge_refusals net ws) refl (largest_total nothing (bindings ws)) (judge-told net ws)
