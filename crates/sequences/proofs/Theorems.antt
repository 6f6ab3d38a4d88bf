-- The statements of specs/Statements.antt. Assumes nothing.
use Prim.Native.Nat.{ℕ, ◌+◌, ◌-◌}
use native.Mathlib.Omega.{arith}
use mathlib.Core.Path.{◌≡◌, refl, sym, ap, ◌∙◌}
use mathlib.Core.Bool.{true}
use mathlib.Core.List.{List, [], ◌∷◌}
use mathlib.Core.Logic.{◌↔◌}
use borrow.Author.Tests.{eqb-true}
use lib.ListN.{length}
use Rattle.obligations.specs.State.{nothing}
use Rattle.obligations.specs.Sequence.{bindings}
use Rattle.obligations.proofs.SequenceLaws.{length-bindings, each_possible-from}
use Rattle.net.specs.Refusals.{Says, accepted, missing_set, name_unanswered}
use Rattle.net.specs.Sentences.{first}
use Rattle.net.specs.Common.{not_orderly, not_activities, not_shaped}
use Rattle.net.specs.Sides.{net_size}
use Rattle.net.specs.Orderly.{orderly}
use Rattle.net.specs.declared.Net.{Net}
use Rattle.net.proofs.OrderlyLaws.{facts_orderly}
use Rattle.net.proofs.SentenceLaws.{given_exactly, told-accepted, told-value, told-ok}
use Rattle.net.proofs.UncountedLaws.{passes_over}
use Rattle.walks.specs.Check.{activity_on_no_walk, unanswered_name}
use Rattle.sequences.specs.Limits.{activity_of, not_sequence}
use Rattle.sequences.specs.Run.{not_all_possible, obligations_left, Peak, largest_total}
use Rattle.sequences.specs.Gain.{gained, fits, topped}
use Rattle.sequences.specs.Learn.{learn_refusals, new_sets, learn_says, learn_gives}
use Rattle.sequences.specs.Follow.{follow_gives}
use Rattle.sequences.specs.Judge.{Missing, judge_refusals, judge_says}
use Rattle.sequences.specs.Statements.{LearnListed, FollowListed, JudgeListed, JudgeUnanswered, NoneHoldsLearnable, LearnAccepts, FitsTestRight, CountableTestRight, LearnHolds, LearnAddsUp, GainsDetermined, LearnValid, RefusedSame, FollowLearns, Judgeable, NoneHoldsJudgeable, JudgeAccepts, LargestIsPeak, PeakWithin, PeakBelow, JudgePassesOver}
use Rattle.sequences.proofs.AcceptLaws.{fits_formed, formed_possible, accepted_learnable, learnable_accepted}
use Rattle.sequences.proofs.PeakLaws.{largest_exactly, peak_bounded, sizes_bounded}
use Rattle.sequences.proofs.JudgeLaws.{judge-uncounted}
use Rattle.sequences.proofs.ValidLaws.{accepted_judgeable, judgeable_accepted}
use Rattle.sequences.proofs.RefusalLaws.{learn-told, learn-listed, follow_listed, judge-told, judge-listed}
use Rattle.sequences.proofs.CountLaws.{gained_gains, gained_sum, countable_exactly}
use Rattle.sequences.proofs.GrowthLaws.{Activities, gained-size}
use Rattle.sequences.proofs.JoinLaws.{gained-valid, gains_same}
use Rattle.sequences.proofs.FollowLearnLaws.{follow-is-learn}

-- ---- the refusals

pub learn-as_listed : LearnListed
learn-as_listed = learn-listed

pub follow-as_listed : FollowListed
follow-as_listed = follow_listed

pub judge-as_listed : JudgeListed
judge-as_listed = judge-listed

pub judge-unanswered : JudgeUnanswered
judge-unanswered net ws a =
    let s = bindings ws in
    let l = (judge-listed net ws).refused_exactly name_unanswered a in
    let g =
    given_exactly (not_orderly net ∷ not_sequence ws ∷ not_activities (length s) (activity_of s) ∷ activity_on_no_walk net ∷ []) (unanswered_name net)
    (not_shaped net (length s) (activity_of s) ∷ first missing_set (length s) (Missing net s) ∷ not_all_possible s ∷ obligations_left s ∷ []) refl a in
    ((λ e. g.0 (l.0 e)), (λ w. l.1 (g.1 w)))

-- ---- learn

-- what is said where the tests pass
learn-value : (net : Net) (ws : List ℕ) → (learn_says net ws).ok ≡ true → learn_says net ws ≡ accepted (new_sets net (bindings ws))
learn-value net ws e = told-ok (learn_refusals net ws) (new_sets net (bindings ws)) (learn-told net ws) e

pub none_holds_learnable : NoneHoldsLearnable
none_holds_learnable net ws =
    let t = told-accepted (learn_refusals net ws) (new_sets net (bindings ws)) (learn-told net ws) in (
      (λ none. accepted_learnable net ws (ap (λ (s : Says). s.ok) (t.1 none))),
      (λ l. t.0 (learn-value net ws (learnable_accepted net ws l))),
    )

pub fits_test_right : FitsTestRight
fits_test_right net s o f = fits_formed net s (facts_orderly net o) f

pub countable_test_right : CountableTestRight
countable_test_right net s o w f = countable_exactly net s (facts_orderly net o) w.activities_only f

-- what an accepted learn shows of the net and the sequence, by the tests
record LearnedParts (net : Net) (ws : List ℕ) : Type 0 where
  net_orderly : orderly net ≡ true
  activities_only : Activities (bindings ws)
  fitting : fits net (bindings ws) ≡ true
  clear : topped net (bindings ws) ≡ 0

accepted_parts : (net : Net) (ws : List ℕ) → (learn_says net ws).ok ≡ true → LearnedParts net ws
accepted_parts net ws e =
    let l = accepted_learnable net ws e in
    let o = facts_orderly net l.net_orderly in
    let f = (fits_formed net (bindings ws) o l.well_formed).1 l.fitting in
    record {
      net_orderly = o;
      activities_only = l.well_formed.activities_only;
      fitting = f;
      clear = eqb-true (topped net (bindings ws)) 0 ((countable_exactly net (bindings ws) o l.well_formed.activities_only f).1 l.counting);
    }

-- what learn gives where it accepts
learn_gives_lem : (net : Net) (ws : List ℕ) (new : ℕ) → learn_says net ws ≡ accepted new → learn_gives net ws ≡ gained net (bindings ws)
unfolding learn_gives
learn_gives_lem net ws new e = rw (ap (λ (s : Says). s.ok) e)

-- the value that is said is the growth of the net's own lists
pub learn-accepts : LearnAccepts
learn-accepts net ws new = (
  (λ e. (accepted_learnable net ws (ap (λ (s : Says). s.ok) e), grown new e)),
  (λ w.
      let e = learn-value net ws (learnable_accepted net ws w.0) in
      e ∙ ap accepted (omega (arith, grown (new_sets net (bindings ws)) e, w.1))),
)
  where
    grown : (n : ℕ) → learn_says net ws ≡ accepted n → net_size (learn_gives net ws) ≡ net_size net + n
    grown n e =
        let p = accepted_parts net ws (ap (λ (s : Says). s.ok) e) in
        let v = (told-value (learn_refusals net ws) (new_sets net (bindings ws)) n (learn-told net ws)).0 e in
        omega (arith, v.1, ap net_size (learn_gives_lem net ws n e), gained-size net (bindings ws) p.net_orderly p.activities_only p.fitting)

pub learn-holds : LearnHolds
learn-holds net ws new said =
    let p = accepted_parts net ws (ap (λ (s : Says). s.ok) said) in
    rw (learn_gives_lem net ws new said) (gained_gains net (bindings ws) p.net_orderly p.activities_only p.fitting p.clear)

pub learn-adds_up : LearnAddsUp
learn-adds_up net ws new said side a =
    let p = accepted_parts net ws (ap (λ (s : Says). s.ok) said) in
    rw (learn_gives_lem net ws new said) (gained_sum net (bindings ws) p.net_orderly p.activities_only p.fitting p.clear side a)

pub gains_determined : GainsDetermined
gains_determined = gains_same

pub learn-valid : LearnValid
learn-valid net ws new said =
    gained-valid net (learn_gives net ws) (bindings ws) (bindings ws) (λ t a m. omega arith) (learn-holds net ws new said)
    (accepted_learnable net ws (ap (λ (s : Says). s.ok) said)).well_formed

pub follow_learns : FollowLearns
follow_learns = follow-is-learn

pub refused-same : RefusedSame
unfolding learn_gives follow_gives
refused-same net ws n p = ((λ e. rw (ap (λ (s : Says). s.ok) e)), (λ e. rw (ap (λ (s : Says). s.ok) e)))

-- ---- judge

-- what is said where the tests pass is the largest total
pub none_holds_judgeable : NoneHoldsJudgeable
none_holds_judgeable net ws =
    let peak = largest_total nothing (bindings ws) in
    let t = told-accepted (judge_refusals net ws) peak (judge-told net ws) in (
      (λ none. accepted_judgeable net ws (ap (λ (s : Says). s.ok) (t.1 none))),
      (λ l. t.0 (told-ok (judge_refusals net ws) peak (judge-told net ws) (judgeable_accepted net ws l))),
    )

pub largest_is-peak : LargestIsPeak
largest_is-peak = largest_exactly

-- of a sequence that is valid in a net, and so has two positions
judged_peak : (net : Net) (ws : List ℕ) (peak : ℕ) → Judgeable net ws → (largest_total nothing (bindings ws) ≡ peak) ↔ Peak (bindings ws) peak
judged_peak net ws peak l = largest_exactly (bindings ws) peak (omega (arith, l.valid.well_formed.shape.two))

pub judge-accepts : JudgeAccepts
judge-accepts net ws peak =
    let t = told-value (judge_refusals net ws) (largest_total nothing (bindings ws)) peak (judge-told net ws) in
    let j = none_holds_judgeable net ws in (
      (λ e. let l = j.0 (t.0 e).0 in (l, (judged_peak net ws peak l).0 (sym (t.0 e).1))),
      (λ w. t.1 (j.1 w.0, sym ((judged_peak net ws peak w.0).1 w.1))),
    )

pub peak-within : PeakWithin
peak-within net ws peak e =
    let s = bindings ws in
    let w = (judge-accepts net ws peak).0 e in
    let f = w.0.valid.well_formed in
    let all = each_possible-from s (formed_possible net.start net.end s f) in
    (w.1.highest, omega (arith, (judged_peak net ws peak w.0).1 w.1, peak_bounded s f.activities_only all))

pub peak_below : PeakBelow
peak_below net ws peak e =
    let n = length (bindings ws) - 1 in
    let l = ((judge-accepts net ws peak).0 e).0 in
    let f = l.valid.well_formed in
    let sizes = sizes_bounded (bindings ws) n (omega (arith, f.shape.two)) ((f.output_empty_last_only n (omega (arith, f.shape.two))).1 (omega (arith, f.shape.two))) in
    omega (arith, sizes, (peak-within net ws peak e).1, length-bindings ws l.count l.whole, l.few)

pub judge-passes_over : JudgePassesOver
judge-passes_over net other ws o q e = passes_over (λ n. judge_says n ws) (λ n. judge-uncounted n ws) net other o q e
