-- Lists of the same sequences in two orders, computed (02, (ix)). The premises of the theorem hold of lists that differ in order and have
-- a follow in place of a learn. Where a sequence occurs one time fewer, the nets differ in their counts; and where a call is refused, they
-- differ in their sets, so that both premises are needed. Assumes nothing.
use Prim.Native.Nat.{ℕ, ◌+◌, ◌<◌}
use native.Mathlib.Omega.{arith}
use mathlib.Core.Path.{◌≡◌, refl, sym, ap, subst, ◌∙◌}
use mathlib.Core.List.{List, [], ◌∷◌, map, cons≢nil, Memᴰ}
use mathlib.Core.List.Memᴰ
use mathlib.Core.Logic.{◌↔◌, ⊎_elim}
use lib.ListN.{get_or}
use Rattle.std.specs.Prelude.{Ok, Err}
use Rattle.obligations.specs.Tests.{first_from, first_failing}
use Rattle.obligations.specs.Sets.{bit, single, keep, members_from, members}
use Rattle.obligations.specs.Places.{places_of}
use Rattle.obligations.specs.State.{inputs, outputs, all_due, lowered, raised, possible, taken, added, after, all_zero, total}
use Rattle.obligations.specs.Trace.{first_no_activity, ends_agree, shaped}
use Rattle.obligations.specs.Sequence.{bindings, words, run, possible_at, first_impossible}
use Rattle.obligations.specs.Examples.{fig4}
use Rattle.net.specs.Refusals.{with_place}
use Rattle.net.specs.declared.Net.{Net}
use Rattle.net.specs.declared.refusal.Refusal.TheVariants.{FullSide}
use Rattle.net.specs.Lists.{all_below, listed, ascends_above, zeros, insert, insert_at, place_in}
use Rattle.net.specs.Sides.{SameButCounts, sets_on, counts_on}
use Rattle.net.specs.Orderly.{ends_ok, block_ok, sides_ok, sized, orderly, counts_ok, kind_ok}
use Rattle.net.specs.Fresh.{fresh_net, fresh_gives}
use Rattle.net.specs.Put.{misplaced, side_says, grows, put_sides}
use Rattle.net.specs.declared.sides.Side.TheVariants.{Output}
use Rattle.sequences.specs.Limits.{words_within, within_limits, trace_within_limits}
use Rattle.sequences.specs.Gain.{raised_at, topped_at, with_use, takes_put, topped_use, with_binding, takes_binding, topped_binding, gained, fits, topped}
use Rattle.sequences.specs.Learn.{learn_means, empty_agree, first_wrongly_empty, learn_positions, learn_says, learn_gives}
use Rattle.sequences.specs.Follow.{followed_from, follow_positions, follow_says, follow_gives}
use Rattle.netfile.specs.Statements.{SameText}
use Rattle.promises.specs.Calls.{Call, learn, follow, learned_words, grown, answers}
use Rattle.promises.specs.Order.{AllAccepted, times, AsOften, SameSequences}
use Rattle.promises.proofs.TimesLaws.{same}
use Rattle.promises.proofs.Theorems.{fresh_order_immaterial, only_counts_differ}

-- calls that answer so are accepted
accepted_by : (news : List ℕ) (net : Net) (calls : List Call) → answers net calls ≡ map (λ new. learn_means (Ok new)) news → AllAccepted net calls
accepted_by news net calls e said i = of news (subst (Memᴰ said) e i)
  where
    of : (news : List ℕ) → Memᴰ said (map (λ new. learn_means (Ok new)) news) → (new : ℕ) × (said ≡ learn_means (Ok new))
    of [] i = absurd (Memᴰ.not-nil i)
    of (n ∷ ns) i = ⊎_elim (λ e. (n, e)) (of ns) (Memᴰ.cases_cons i)

-- ---- three lists of calls from one fresh net

first : Net
first = fresh_gives 0 4

-- from 0 to 4 at once
at_once : List ℕ
at_once = 0 ∷ 0 ∷ 16 ∷ 4 ∷ 1 ∷ 0 ∷ []

-- 003's Fig. 4, then from 0 to 4 at once by its trace, then Fig. 4 again
forth : List Call
forth = learn fig4 ∷ follow (0 ∷ 4 ∷ []) ∷ learn fig4 ∷ []

-- at once first, as a learn, then Fig. 4 twice
back : List Call
back = learn at_once ∷ learn fig4 ∷ learn fig4 ∷ []

-- Fig. 4 one time fewer
once : List Call
once = follow (0 ∷ 4 ∷ []) ∷ learn fig4 ∷ []

-- what the calls answer, and how often the output sets of 0 were used, that of Fig. 4 and the other one
computed :
    (answers first forth ≡ map learn_means (Ok 12 ∷ Ok 2 ∷ Ok 0 ∷ []))
    × (answers first back ≡ map learn_means (Ok 2 ∷ Ok 12 ∷ Ok 0 ∷ []))
    × (answers first once ≡ map learn_means (Ok 2 ∷ Ok 12 ∷ []))
    × (counts_on (grown first forth) Output 0 ≡ 2 ∷ 1 ∷ [])
    × (counts_on (grown first back) Output 0 ≡ 2 ∷ 1 ∷ [])
    × (counts_on (grown first once) Output 0 ≡ 1 ∷ 1 ∷ [])
    × (grown first forth ≡ grown first back)
unfolding first fresh_gives learn_says learn_gives within_limits words_within bindings first_no_activity first_failing first_from learn_positions shaped ends_agree first_wrongly_empty empty_agree first_impossible possible_at possible run after taken added inputs outputs places_of members members_from keep all_due lowered raised all_zero fits takes_binding takes_put with_binding with_use gained topped topped_binding topped_use topped_at raised_at side_says misplaced listed insert insert_at place_in grows put_sides total fresh_net orderly sized ends_ok sides_ok block_ok counts_ok kind_ok all_below ascends_above zeros follow_says follow_gives trace_within_limits follow_positions followed_from single fig4 at_once forth back once answers grown
computed = (refl, refl, refl, refl, refl, refl, refl)

counted : (times fig4 forth ≡ 2) × (times at_once forth ≡ 1) × (times fig4 back ≡ 2) × (times at_once back ≡ 1) × (times fig4 once ≡ 1) × (times at_once once ≡ 1)
unfolding times words followed_from single bit fig4 at_once forth back once
counted = (refl, refl, refl, refl, refl, refl)

-- ---- each sequence occurs as often: the nets are the same, as the theorem says

forth_back : AsOften forth back
unfolding times words followed_from single bit fig4 at_once forth back
forth_back ws = moved (same fig4 ws) (same at_once ws) (same fig4 ws)
  where
    moved : (x y z : ℕ) → ((0 + x) + y) + z ≡ ((0 + y) + z) + x
    moved x y z = omega arith

forth_accepted : AllAccepted first forth
forth_accepted = accepted_by (12 ∷ 2 ∷ 0 ∷ []) first forth computed.0

back_accepted : AllAccepted first back
back_accepted = accepted_by (2 ∷ 12 ∷ 0 ∷ []) first back computed.1

forth_same : grown first forth ≡ grown first back
unfolding first
forth_same = fresh_order_immaterial 0 4 forth back forth_accepted back_accepted forth_back

-- ---- the same sequences occur, one of them one time fewer: the nets differ, in their counts alone, and their texts are the same

once_back : SameSequences once back
unfolding times words followed_from single bit fig4 at_once once back
once_back ws = either (same fig4 ws) (same at_once ws)
  where
    either : (x y : ℕ) → (0 < (0 + y) + x) ↔ (0 < ((0 + y) + x) + x)
    either x y = ((λ h. omega arith), (λ h. omega arith))

once_accepted : AllAccepted first once
once_accepted = accepted_by (2 ∷ 12 ∷ []) first once computed.2

once_text : SameButCounts (grown first once) (grown first back) × SameText (grown first once) (grown first back)
once_text = only_counts_differ first once back once_accepted back_accepted once_back

once_differs : grown first once ≡ grown first back → ⊥
once_differs e = absurd (omega (arith, ap (λ (l : List ℕ). get_or l 0 0) (sym computed.5 ∙ ap (λ (n : Net). counts_on n Output 0) e ∙ computed.4)))

-- ---- each sequence occurs as often, and a call is refused by 12

-- a session that brings fifteen sets to the output side of 2, and two that bring one more each
nearly_full : Call
nearly_full = follow (0 ∷ 2 ∷ 3 ∷ 2 ∷ 4 ∷ 2 ∷ 5 ∷ 2 ∷ 6 ∷ 2 ∷ 7 ∷ 2 ∷ 8 ∷ 2 ∷ 9 ∷ 2 ∷ 10 ∷ 2 ∷ 11 ∷ 2 ∷ 12 ∷ 2 ∷ 13 ∷ 2 ∷ 14 ∷ 2 ∷ 15 ∷ 2 ∷ 16 ∷ 2 ∷ 17 ∷ 1 ∷ [])

by_18 : Call
by_18 = follow (0 ∷ 2 ∷ 18 ∷ 1 ∷ [])

by_19 : Call
by_19 = follow (0 ∷ 2 ∷ 19 ∷ 1 ∷ [])

first_18 : List Call
first_18 = nearly_full ∷ by_18 ∷ by_19 ∷ []

first_19 : List Call
first_19 = nearly_full ∷ by_19 ∷ by_18 ∷ []

first_18_19 : AsOften first_18 first_19
unfolding times first_18 first_19
first_18_19 ws = swapped (same (learned_words nearly_full) ws) (same (learned_words by_18) ws) (same (learned_words by_19) ws)
  where
    swapped : (x y z : ℕ) → ((0 + x) + y) + z ≡ ((0 + x) + z) + y
    swapped x y z = omega arith

-- whichever of the two comes last is refused, and only the other one's activity then has a set
refused_last :
    (answers (fresh_gives 0 1) first_18 ≡ map learn_means (Ok 62 ∷ Ok 4 ∷ Err (with_place FullSide 0) ∷ []))
    × (answers (fresh_gives 0 1) first_19 ≡ map learn_means (Ok 62 ∷ Ok 4 ∷ Err (with_place FullSide 0) ∷ []))
    × (sets_on (grown (fresh_gives 0 1) first_18) Output 18 ≡ 2 ∷ [])
    × (sets_on (grown (fresh_gives 0 1) first_19) Output 18 ≡ [])
unfolding fresh_gives learn_says learn_gives within_limits words_within bindings first_no_activity first_failing first_from learn_positions shaped ends_agree first_wrongly_empty empty_agree first_impossible possible_at possible run after taken added inputs outputs places_of members members_from keep all_due lowered raised all_zero fits takes_binding takes_put with_binding with_use gained topped topped_binding topped_use topped_at raised_at side_says misplaced listed insert insert_at place_in grows put_sides total fresh_net orderly sized ends_ok sides_ok block_ok counts_ok kind_ok all_below ascends_above zeros follow_says follow_gives trace_within_limits follow_positions followed_from single nearly_full by_18 by_19 first_18 first_19 grown answers
refused_last = (refl, refl, refl, refl)

-- so the nets differ
refused_differ : grown (fresh_gives 0 1) first_18 ≡ grown (fresh_gives 0 1) first_19 → ⊥
refused_differ e = cons≢nil (sym refused_last.2 ∙ ap (λ (n : Net). sets_on n Output 18) e ∙ refused_last.3)
