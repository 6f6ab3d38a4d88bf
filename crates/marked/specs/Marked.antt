-- The marked examples of 01 ("Marked examples on net F, and slips"), as one list, and those of 02 by request. They are checked in
-- proofs/Examples.antt.
use Rattle.std.specs.Prelude.{ℕ, true, false, Ok, Err, ◌+◌, ◌-◌, ◌*◌, ◌≡◌, List, [], ◌∷◌, ◌++◌, map, replicate}
use Rattle.obligations.specs.Limits.{positions}
use Rattle.obligations.specs.Sequence.{bindings, words}
use Rattle.obligations.specs.Examples.{fig4, trip}
use Rattle.net.specs.Refusals.{with_place}
use Rattle.net.specs.declared.refusal.Refusal.TheVariants.{OutsideLimits, NotPossible, LeftOver}
use Rattle.net.specs.Fresh.{fresh_gives}
use Rattle.net.specs.Contained.{contained_means, contained_says}
use Rattle.net.specs.Examples.{F, travel}
use Rattle.walks.specs.Check.{check_means, check_says}
use Rattle.sequences.specs.Run.{Peak, output_sizes}
use Rattle.sequences.specs.Learn.{learn_means}
use Rattle.sequences.specs.Judge.{judge_means, judge_says}
use Rattle.sequences.specs.Follow.{followed}
use Rattle.search.specs.Replay.{replay_means, replay_says}
use Rattle.search.specs.declared.Outcome.TheVariants.{Found, Failed, Spent}
use Rattle.promises.specs.Calls.{learn, follow, grown, answers}

-- 01's, in its order; each replay has a buffer of 12 words, and where the paper names no budget 1,000,000
abbrev pub Marked : Type 0
Marked =
    (check_says F ≡ check_means (Ok 4))
    × (replay_says F (0 ∷ 1 ∷ 3 ∷ []) 1000000 12 ≡ replay_means (Ok (Found 3)))
    × (replay_says F (0 ∷ 2 ∷ 3 ∷ []) 1000000 12 ≡ replay_means (Ok (Found 6)))
    × (replay_says F (0 ∷ 1 ∷ 2 ∷ 3 ∷ []) 1000000 12 ≡ replay_means (Ok (Found 11)))
    × (replay_says F (0 ∷ 1 ∷ 2 ∷ 3 ∷ []) 10 12 ≡ replay_means (Ok (Spent 10)))
    × (replay_says F (0 ∷ 1 ∷ 2 ∷ 3 ∷ []) 11 12 ≡ replay_means (Ok (Found 11)))
    × (replay_says F (0 ∷ 3 ∷ []) 1000000 12 ≡ replay_means (Ok (Failed 12)))
    × (replay_says F (0 ∷ 1 ∷ 1 ∷ 3 ∷ []) 1000000 12 ≡ replay_means (Ok (Failed 8)))
    × (replay_says F [] 1000000 12 ≡ replay_means (Ok (Failed 0)))
    × (replay_says F (0 ∷ []) 1000000 12 ≡ replay_means (Ok (Failed 0)))
    × (judge_says F (0 ∷ 0 ∷ 6 ∷ 2 ∷ 1 ∷ 8 ∷ 3 ∷ 4 ∷ 0 ∷ []) ≡ judge_means (Err (with_place LeftOver 0)))
    × (answers (fresh_gives 0 3) (learn (0 ∷ 0 ∷ 2 ∷ 1 ∷ 3 ∷ 10 ∷ 3 ∷ 2 ∷ 0 ∷ []) ∷ []) ≡ map learn_means (Err (with_place NotPossible 2) ∷ []))
    × (answers (fresh_gives 0 4) (learn fig4 ∷ learn fig4 ∷ []) ≡ map learn_means (Ok 12 ∷ Ok 0 ∷ []))

-- 02, (i): "for the sequence of document 003's trip net with hotel, flight and car it is 4, where the sum of output sizes is 7"
abbrev pub MarkedPeak : Type 0
MarkedPeak = Peak (bindings trip) 4 × (judge_says travel trip ≡ judge_means (Ok 4)) × (output_sizes (bindings trip) ≡ 7)

-- 02, (ii): "A session of 96 is replayed and one of 97 is refused as before by 3. The comparison of two nets covers the longer
-- sequences too." A session goes from 0 to 3 by way of 1, again and again, and a detour by way of 2 at last. Trials: one at the
-- start and at the first 1, three at each 1 behind it, and three more at the last one and the end. The paper's number is the first
-- equation, and the others are said by its name.
unfoldable pub session : ℕ → List ℕ
session n = 0 ∷ (replicate (n - 2) 1 ++ (3 ∷ []))

unfoldable pub detour : ℕ → List ℕ
detour n = 0 ∷ (replicate (n - 3) 1 ++ (2 ∷ 3 ∷ []))

abbrev pub MarkedLongest : Type 0
MarkedLongest =
    let longest = session positions in
    let longer = session (positions + 1) in
    let net = grown (fresh_gives 0 3) (follow longest ∷ []) in
    let other = grown (fresh_gives 0 3) (follow longest ∷ follow (detour positions) ∷ []) in
    (positions ≡ 96)
    × (answers (fresh_gives 0 3) (follow longest ∷ follow longer ∷ learn (words (followed longer)) ∷ []) ≡ map learn_means (Ok 6 ∷ Err (with_place OutsideLimits 0) ∷ Err (with_place OutsideLimits 0) ∷ []))
    × (replay_says net longest 1000000 (3 * positions) ≡ replay_means (Ok (Found (3 * positions - 4))))
    × (replay_says net longer 1000000 (3 * (positions + 1)) ≡ replay_means (Err (with_place OutsideLimits 0)))
    × (judge_says net (words (followed longer)) ≡ judge_means (Err (with_place OutsideLimits 0)))
    × (contained_says net other ≡ contained_means (Ok true))
    × (contained_says other net ≡ contained_means (Ok false))
