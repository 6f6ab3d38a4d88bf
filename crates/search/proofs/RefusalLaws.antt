-- A replay answers as its refusals are listed: each test of its chain fails exactly where its sentence holds, and where none fails
-- the answer of the search is no refusal. So no refusal holds exactly if every test passes, which is that the net passes, the
-- trace is within the limit of positions, all of activities, and the buffer has three words for each. Assumes nothing.
use Prim.Native.Nat.{ℕ}
use mathlib.Core.Path.{◌≡◌, refl, ap, ◌∙◌}
use mathlib.Core.Bool.{Bool, true, false, cond}
use mathlib.Core.List.{List, []}
use native.Mathlib.Omega.{arith}
use lib.Dec.{leb}
use lib.ListN.{length}
use Rattle.obligations.proofs.TraceLaws.{activities_below, below_activities}
use Rattle.net.specs.Refusals.{Says, accepted, refused, disorderly, outside_limits, no_activity}
use Rattle.net.specs.Sentences.{NoneHolds, AsListed}
use Rattle.net.specs.Orderly.{orderly}
use Rattle.net.specs.Traces.{activity_in, no_activity_in}
use Rattle.net.specs.declared.Net.{Net}
use Rattle.net.proofs.OrderlyLaws.{facts_orderly}
use Rattle.net.proofs.SentenceLaws.{Told, told_end, whole_link, told_listed, chain_listed, told-map, told-accepted}
use Rattle.net.proofs.CommonLaws.{orderly_link, activities_link}
use Rattle.net.proofs.ChainLaws.{unless-passes, none_passes}
use Rattle.walks.proofs.CheckLaws.{clear_passes, passes_clear, passing_link, passing_passes, passing_rest}
use Rattle.search.specs.Search.{Result, found, failed, trials_of}
use Rattle.search.specs.Trace.{has_room}
use Rattle.search.specs.Replay.{says_refused, says_spent, end_says, within_budget, replayed, checked_says, ReplayOutsideLimits, replay_refusals, replay_tests, replay_says}
use Rattle.search.specs.Statements.{Replayable}
use Rattle.search.proofs.TraceLaws.{room_facts, facts_room, room_none, room_some}
use Rattle.search.proofs.ReplayLaws.{tests_net}

-- ---- what a search says is no refusal

pub refusals-same : (n m p q : ℕ) → says_refused n p ≡ says_refused m q → (n ≡ m) × (p ≡ q)
refusals-same n m p q e = (cc, cc)

within_unrefused : (budget : ℕ) (r : Result) (n p : ℕ) → within_budget budget r ≡ says_refused n p → ⊥
unfolding within_budget end_says
within_unrefused budget r n p e = go (leb (trials_of r) budget) r e
  where
    go : (t : Bool) (r : Result) → cond t (end_says r) (says_spent budget) ≡ says_refused n p → ⊥
    go true (found s k) q = let z : ◌≡◌ {A = ℕ} 0 1 = cc in omega arith
    go true (failed k) q = let z : ◌≡◌ {A = ℕ} 0 1 = cc in omega arith
    go false r q = let z : ◌≡◌ {A = ℕ} 0 1 = cc in omega arith

-- ---- the chain and its sentences

module _ (net : Net) (trace : List ℕ) (room : ℕ) where
  tests_told : Told refused (replay_refusals net trace room) (accepted 0) (replay_tests net trace room)
  unfolding replay_tests
  tests_told =
      orderly_link refused (accepted 0) _ _ net
      (λ o. whole_link refused (accepted 0) outside_limits (ReplayOutsideLimits trace room) _ (has_room (length trace) room) _ (room_none trace room) (room_some trace room)
      (λ h. activities_link refused (accepted 0) _ _ (length trace) (activity_in trace)
      (λ a. passing_link net o refused (accepted 0) [] _ (λ c. told_end refused (accepted 0)))))

  pub tests_listed : AsListed refused (replay_refusals net trace room) (replay_tests net trace room)
  tests_listed = chain_listed (replay_refusals net trace room) refl 0 tests_told

  pub replay_listed : (budget : ℕ) → AsListed says_refused (replay_refusals net trace room) (replay_says net trace budget room)
  unfolding replay_says checked_says
  replay_listed budget =
      told_listed says_refused refusals-same (checked_says net trace budget) (within_unrefused budget (replayed net trace)) (replay_refusals net trace room) refl
      (told-map refused says_refused (λ (s : Says). cond s.ok (checked_says net trace budget) (says_refused s.refusal s.place)) (λ n p. refl) (replay_refusals net trace room) (accepted 0) (replay_tests net trace room) tests_told)

  -- ---- that no refusal holds

  pub none_holds_pass : NoneHolds (replay_refusals net trace room) → replay_tests net trace room ≡ accepted 0
  none_holds_pass = (told-accepted (replay_refusals net trace room) 0 tests_told).1

  pub none_replayable : NoneHolds (replay_refusals net trace room) → Replayable net trace room
  unfolding replay_tests
  none_replayable none =
      let c₂ = (unless-passes (orderly net) disorderly _).0 (ap (λ (s : Says). s.ok) (none_holds_pass none)) in
      let c₃ = (unless-passes (has_room (length trace) room) outside_limits _).0 c₂.1 in
      let c₄ = (none_passes (no_activity_in trace) no_activity _).0 c₃.1 in
      let c₆ = (passing_passes net _).0 c₄.1 in
      let f = room_facts (length trace) room c₃.0 in
      record {
        net_passes = clear_passes net c₂.0 c₆.0;
        trace_with_room = record { few_positions = f.0; activities_only = activities_below (length trace) (activity_in trace) c₄.0; three_words_each = f.1 };
      }

  pub replayable_none : Replayable net trace room → NoneHolds (replay_refusals net trace room)
  replayable_none r =
      let o = facts_orderly net r.net_passes.is_orderly in
      let w = r.trace_with_room in
      (told-accepted (replay_refusals net trace room) 0 tests_told).0
      (tests_net net trace room o (facts_room (length trace) room w.few_positions w.three_words_each) (below_activities (length trace) (activity_in trace) w.activities_only)
      ∙ passing_rest net (accepted 0) (passes_clear net o r.net_passes))
