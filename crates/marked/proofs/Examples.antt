-- The definitions computed: the marked examples of 01 and 02, and lists of calls which show that the promise says something of each kind
-- of list: calls are accepted and refused, and of the nets that pass one contains the grown net and one doesn't. Assumes nothing.
use Prim.Native.Nat.{ℕ, zero, suc, ◌+◌, ◌*◌}
use mathlib.Core.Path.{◌≡◌, refl}
use mathlib.Core.List.{List, [], ◌∷◌, ◌++◌, map}
use lib.Dec.{lit<}
use lib.ListN.{replicate, set}
use Rattle.std.specs.Prelude.{true, false, Ok, Err}
use Rattle.obligations.specs.Limits.{positions}
use Rattle.obligations.specs.Tests.{number, first_from, first_failing}
use Rattle.obligations.specs.Sets.{bit, member, single, union, keep, members_from, members, size}
use Rattle.obligations.specs.Places.{places_of}
use Rattle.obligations.specs.State.{inputs, outputs, all_due, lowered, raised, possible, taken, added, after, all_zero, total}
use Rattle.obligations.specs.Trace.{first_no_activity, ends_agree, shaped}
use Rattle.obligations.specs.Sequence.{bindings, words, run, possible_at, first_impossible}
use Rattle.obligations.specs.Examples.{fig4, trip}
use Rattle.net.specs.Refusals.{with_place}
use Rattle.net.specs.declared.refusal.Refusal.TheVariants.{OutsideLimits, NoActivity, WrongEnds, WronglyEmpty, NotPossible, LeftOver, FullSide, CountTooHigh}
use Rattle.net.specs.Limits.{most_uses}
use Rattle.net.specs.Lists.{all_below, listed, all_listed, ascends_above, zeros, insert, insert_at, place_in}
use Rattle.net.specs.Sides.{with_counts, uncounted, sets_on, counts_on}
use Rattle.net.specs.Orderly.{ends_ok, block_ok, sides_ok, sized, orderly, counts_ok, kind_ok}
use Rattle.net.specs.Fresh.{fresh_net, fresh_gives}
use Rattle.net.specs.Examples.{F, travel}
use Rattle.net.specs.Put.{misplaced, side_says, grows, with_sides, put_sides}
use Rattle.net.specs.Contained.{sides_within, contained, contained_means, contained_says}
use Rattle.net.specs.declared.sides.Side.TheVariants.{Input, Output}
use Rattle.walks.specs.Below.{any_below, sum_below, with_if, those_below, those}
use Rattle.walks.specs.Arcs.{named, names, arc, arcs}
use Rattle.walks.specs.Rows.{rows_from, rows, one_round, rounds, reach}
use Rattle.walks.specs.Check.{on_sides, in_net, successors, predecessors, outside, lost, unanswered_on, unanswered, lowest_member, check_means, check_says}
use Rattle.sequences.specs.Limits.{words_within, within_limits, trace_within_limits}
use Rattle.sequences.specs.Run.{largest_total, output_sizes}
use Rattle.sequences.specs.Gain.{raised_at, topped_at, with_use, takes_put, topped_use, with_binding, takes_binding, topped_binding, gained, fits, topped}
use Rattle.sequences.specs.Judge.{judge_says, judge_positions, run_says, first_missing, on_side_at}
use Rattle.sequences.specs.Learn.{learn_means, empty_agree, first_wrongly_empty, learn_positions, learn_says, learn_gives}
use Rattle.sequences.specs.Follow.{followed_from, follow_positions, follow_says, follow_gives}
use Rattle.search.specs.Search.{trials_of, later, or_else, behind, trial_if, trial, try_outputs, try_inputs, at_end, search_from, search_of}
use Rattle.search.specs.Trace.{has_room}
use Rattle.search.specs.Replay.{end_says, replayed, within_budget, checked_says, replay_tests, replay_says}
use Rattle.sequences.proofs.Theorems.{largest_is-peak}
use Rattle.promises.specs.Calls.{Call, learn, follow, grown, answers}
use Rattle.marked.specs.Marked.{Marked, MarkedPeak, session, detour, MarkedLongest}

-- the marked examples
pub marked : Marked
unfolding fresh_gives judge_says judge_positions run_says first_missing on_side_at learn_says learn_gives within_limits words_within bindings first_no_activity first_failing first_from learn_positions shaped ends_agree first_wrongly_empty empty_agree first_impossible possible_at possible run after taken added inputs outputs places_of members members_from keep all_due lowered raised all_zero fits takes_binding takes_put with_binding with_use gained topped topped_binding topped_use topped_at raised_at side_says misplaced listed insert insert_at place_in grows put_sides total fresh_net orderly sized ends_ok sides_ok block_ok counts_ok kind_ok all_below ascends_above zeros trials_of later or_else behind trial_if trial try_outputs try_inputs at_end search_from search_of end_says replayed within_budget checked_says has_room replay_tests replay_says check_says lowest_member lost unanswered unanswered_on outside successors predecessors in_net on_sides reach rounds one_round rows rows_from arcs arc names named those those_below with_if sum_below number any_below union single member bit F fig4 answers
marked = (refl, refl, refl, refl, refl, refl, refl, refl, refl, refl, refl, refl, refl)

-- the peak is 4, and as the judge says it too
pub marked_peak : MarkedPeak
unfolding judge_says judge_positions run_says first_missing on_side_at within_limits words_within bindings first_no_activity first_failing first_from shaped ends_agree first_impossible possible_at possible run after taken added inputs outputs places_of members members_from keep all_due lowered raised all_zero total largest_total output_sizes size listed orderly sized ends_ok sides_ok block_ok counts_ok kind_ok all_below ascends_above zeros lowest_member lost unanswered unanswered_on outside successors predecessors in_net on_sides reach rounds one_round rows rows_from arc names named those those_below with_if number any_below union single member bit travel trip
marked_peak = ((largest_is-peak (bindings trip) 4 (lit< tt)).0 refl, refl, refl)

-- the longest session is followed and replayed, one that is longer is refused by 3, and sets of the last three positions decide
-- a comparison
pub marked_longest : MarkedLongest
unfolding fresh_gives judge_says learn_says learn_gives within_limits words_within bindings words first_no_activity first_failing first_from shaped ends_agree possible after taken added inputs outputs places_of members members_from keep all_due lowered raised all_zero fits takes_binding takes_put with_binding with_use gained topped topped_binding topped_use topped_at raised_at side_says misplaced listed insert insert_at place_in grows put_sides total fresh_net orderly sized ends_ok sides_ok block_ok counts_ok kind_ok all_below ascends_above zeros follow_says follow_gives trace_within_limits follow_positions followed_from trials_of later or_else behind trial_if trial try_outputs try_inputs at_end search_from search_of end_says replayed within_budget checked_says has_room replay_tests replay_says lowest_member lost unanswered unanswered_on outside successors predecessors in_net on_sides reach rounds one_round rows rows_from arc names named those those_below with_if number any_below union single member bit contained_says contained sides_within all_listed session detour grown answers
marked_longest = (refl, refl, refl, refl, refl, refl, refl)

-- F is what three sequences give, but for the counts
F-grown :
    uncounted
    (grown (fresh_net 0 3)
    (learn (0 ∷ 0 ∷ 2 ∷ 1 ∷ 1 ∷ 8 ∷ 3 ∷ 2 ∷ 0 ∷ []) ∷ follow (0 ∷ 2 ∷ 3 ∷ []) ∷ learn (0 ∷ 0 ∷ 6 ∷ 1 ∷ 1 ∷ 8 ∷ 2 ∷ 1 ∷ 8 ∷ 3 ∷ 6 ∷ 0 ∷ []) ∷ []))
    ≡ F
unfolding learn_says learn_gives within_limits words_within bindings first_no_activity first_failing first_from learn_positions shaped ends_agree first_wrongly_empty empty_agree first_impossible possible_at possible run after taken added inputs outputs places_of members members_from keep all_due lowered raised all_zero fits takes_binding takes_put with_binding with_use gained topped topped_binding topped_use topped_at raised_at side_says misplaced listed insert insert_at place_in grows put_sides total fresh_net orderly sized ends_ok sides_ok block_ok counts_ok kind_ok all_below ascends_above zeros follow_says follow_gives trace_within_limits follow_positions followed_from single F grown
F-grown = refl

-- and these are the counts after one more: of 0's outputs 2, 4 and 6, of 1's input 1, and of the empty sets; 0 and 3 occur four
-- times, 1 three times and 2 twice
F-counts :
    let net =
    grown (fresh_net 0 3)
    (learn (0 ∷ 0 ∷ 2 ∷ 1 ∷ 1 ∷ 8 ∷ 3 ∷ 2 ∷ 0 ∷ [])
    ∷ follow (0 ∷ 2 ∷ 3 ∷ [])
    ∷ learn (0 ∷ 0 ∷ 6 ∷ 1 ∷ 1 ∷ 8 ∷ 2 ∷ 1 ∷ 8 ∷ 3 ∷ 6 ∷ 0 ∷ [])
    ∷ follow (0 ∷ 1 ∷ 3 ∷ [])
    ∷ []) in
    (counts_on net Output 0 ≡ 2 ∷ 1 ∷ 1 ∷ []) × (counts_on net Input 1 ≡ 3 ∷ []) × (counts_on net Output 2 ≡ 2 ∷ []) × (counts_on net Input 0 ≡ 4 ∷ []) × (counts_on net Output 3 ≡ 4 ∷ [])
unfolding learn_says learn_gives within_limits words_within bindings first_no_activity first_failing first_from learn_positions shaped ends_agree first_wrongly_empty empty_agree first_impossible possible_at possible run after taken added inputs outputs places_of members members_from keep all_due lowered raised all_zero fits takes_binding takes_put with_binding with_use gained topped topped_binding topped_use topped_at raised_at side_says misplaced listed insert insert_at place_in grows put_sides total fresh_net orderly sized ends_ok sides_ok block_ok counts_ok kind_ok all_below ascends_above zeros follow_says follow_gives trace_within_limits follow_positions followed_from single grown
F-counts = (refl, refl, refl, refl, refl)

-- F in which 2 on the output side of 0 has the highest count: a session that uses it is refused by 21, and one that doesn't is not
F-worn :
    answers (with_sides F Output (with_counts F.outputs (set F.outputs.counts 0 most_uses))) (follow (0 ∷ 1 ∷ 3 ∷ []) ∷ follow (0 ∷ 2 ∷ 3 ∷ []) ∷ [])
    ≡ map learn_means (Err (with_place CountTooHigh 0) ∷ Ok 0 ∷ [])
unfolding learn_says learn_gives within_limits words_within bindings first_no_activity first_failing first_from learn_positions shaped ends_agree first_wrongly_empty empty_agree first_impossible possible_at possible run after taken added inputs outputs places_of members members_from keep all_due lowered raised all_zero fits takes_binding takes_put with_binding with_use gained topped topped_binding topped_use topped_at raised_at side_says misplaced listed insert insert_at place_in grows put_sides total fresh_net orderly sized ends_ok sides_ok block_ok counts_ok kind_ok all_below ascends_above zeros follow_says follow_gives trace_within_limits follow_positions followed_from single F answers
F-worn = refl

-- ---- passing nets that contain the grown net and that don't

-- accepted, refused by 10 at position 2, refused by 7, and accepted with nothing new
calls : List Call
calls = learn fig4 ∷ learn (0 ∷ 0 ∷ 2 ∷ 1 ∷ 3 ∷ 10 ∷ 4 ∷ 2 ∷ 0 ∷ []) ∷ follow (0 ∷ 5 ∷ []) ∷ learn fig4 ∷ []

more : List Call
more = learn fig4 ∷ follow (0 ∷ 4 ∷ []) ∷ []

others : List Call
others = follow (0 ∷ 4 ∷ []) ∷ []

nets :
    let net = grown (fresh_net 0 4) calls in
    let larger = grown (fresh_net 0 4) more in
    let other = grown (fresh_net 0 4) others in
    (answers (fresh_net 0 4) calls ≡ map learn_means (Ok 12 ∷ Err (with_place NotPossible 2) ∷ Err (with_place WrongEnds 0) ∷ Ok 0 ∷ []))
    × (map check_says (net ∷ larger ∷ other ∷ []) ≡ map check_means (Ok 7 ∷ Ok 8 ∷ Ok 1 ∷ []))
    × (contained_says net larger ≡ contained_means (Ok true))
    × (contained_says net other ≡ contained_means (Ok false))
unfolding learn_says learn_gives within_limits words_within bindings first_no_activity first_failing first_from learn_positions shaped ends_agree first_wrongly_empty empty_agree first_impossible possible_at possible run after taken added inputs outputs places_of members members_from keep all_due lowered raised all_zero fits takes_binding takes_put with_binding with_use gained topped topped_binding topped_use topped_at raised_at side_says misplaced listed insert insert_at place_in grows put_sides total fresh_net orderly sized ends_ok sides_ok block_ok counts_ok kind_ok all_below ascends_above zeros follow_says follow_gives trace_within_limits follow_positions followed_from single check_says lowest_member lost unanswered unanswered_on outside successors predecessors in_net on_sides reach rounds one_round rows rows_from arcs arc names named those those_below with_if sum_below number any_below union member bit contained_says contained sides_within all_listed calls more others fig4 grown answers
nets = (refl, refl, refl, refl)

-- ---- a list in which a side is full

-- the traces from 0 to 31 by way of 1, of 2 and so on to n, and then other calls
through : ℕ → List Call → List Call
through zero calls = calls
through (suc n) calls = through n (follow (0 ∷ suc n ∷ 31 ∷ []) ∷ calls)

-- after sixteen ways the start's output side is full: a seventeenth is refused by 12. Then a position more than there may be, and
-- four words, by 3; the number 32 at position 2, by 4; a set before the first position, by 9; an obligation that is left, by 11; and
-- the first way again
busy : List Call
busy =
    through 16
    (follow (0 ∷ 17 ∷ 31 ∷ [])
    ∷ learn (replicate (3 * (positions + 1)) 0)
    ∷ learn (0 ∷ 0 ∷ 2 ∷ 1 ∷ [])
    ∷ follow (0 ∷ 32 ∷ 31 ∷ [])
    ∷ learn (0 ∷ 2 ∷ 2 ∷ 1 ∷ 1 ∷ 2147483648 ∷ 31 ∷ 2 ∷ 0 ∷ [])
    ∷ learn (0 ∷ 0 ∷ 6 ∷ 1 ∷ 1 ∷ 2147483648 ∷ 31 ∷ 2 ∷ 0 ∷ [])
    ∷ follow (0 ∷ 1 ∷ 31 ∷ []) ∷ [])

-- each way adds four sets, the first way again none, and after the refused calls the start's output side is what it was
full :
    (answers (fresh_net 0 31) busy ≡ map learn_means (replicate 16 (Ok 4) ++ (Err (with_place FullSide 0) ∷ Err (with_place OutsideLimits 0) ∷ Err (with_place OutsideLimits 0) ∷ Err (with_place NoActivity 2) ∷ Err (with_place WronglyEmpty 1) ∷ Err (with_place LeftOver 0) ∷ Ok 0 ∷ [])))
    × (sets_on (grown (fresh_net 0 31) busy) Output 0 ≡ 2 ∷ 4 ∷ 8 ∷ 16 ∷ 32 ∷ 64 ∷ 128 ∷ 256 ∷ 512 ∷ 1024 ∷ 2048 ∷ 4096 ∷ 8192 ∷ 16384 ∷ 32768 ∷ 65536 ∷ [])
unfolding learn_says learn_gives within_limits words_within bindings first_no_activity first_failing first_from learn_positions shaped ends_agree first_wrongly_empty empty_agree first_impossible possible_at possible run after taken added inputs outputs places_of members members_from keep all_due lowered raised all_zero fits takes_binding takes_put with_binding with_use gained topped topped_binding topped_use topped_at raised_at side_says misplaced listed insert insert_at place_in grows put_sides total fresh_net orderly sized ends_ok sides_ok block_ok counts_ok kind_ok all_below ascends_above zeros follow_says follow_gives trace_within_limits follow_positions followed_from single through busy grown answers
full = (refl, refl)
