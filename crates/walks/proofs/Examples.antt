-- The check computed on small nets: net F, and others made by puts. Assumes nothing.
use Prim.Native.Nat.{ℕ}
use mathlib.Core.Path.{◌≡◌, refl}
use mathlib.Core.List.{List, [], ◌∷◌, map}
use Rattle.obligations.specs.Tests.{number}
use Rattle.obligations.specs.Sets.{bit, member, single, union, keep, members_from, members}
use Rattle.net.specs.Lists.{all_below, listed, ascends_above, zeros, insert, insert_at, place_in}
use Rattle.net.specs.Orderly.{ends_ok, block_ok, sides_ok, sized, orderly, counts_ok, kind_ok}
use Rattle.net.specs.Fresh.{fresh_net}
use Rattle.net.specs.Put.{misplaced, side_says, put_says, grows, put_gives}
use Rattle.net.specs.Examples.{F}
use Rattle.net.specs.Refusals.{accepted, refused}
use Rattle.net.specs.declared.Net.{Net}
use Rattle.net.specs.declared.sides.Side.{Side}
use Rattle.net.specs.declared.sides.Side.TheVariants.{Input, Output}
use Rattle.walks.specs.Below.{any_below, sum_below, with_if, those_below, those}
use Rattle.walks.specs.Arcs.{named, names, arc, arcs}
use Rattle.walks.specs.Rows.{rows_from, rows, one_round, rounds, reach}
use Rattle.walks.specs.Check.{on_sides, in_net, successors, predecessors, outside, lost, unanswered_on, unanswered, lowest_member, check_says}

-- a net with sets put on one side
puts : Net → Side → ℕ → List ℕ → Net
puts net side a [] = net
puts net side a (m ∷ ms) = puts (put_gives net side a m) side a ms

-- F, with 5 named on a side and on no walk
named_only : Net
named_only = puts F Output 0 (32 ∷ [])

-- the arcs (0, 1), (1, 2), (2, 1) and (1, 3): 2 is on a walk, and on none that visits no activity twice
twice : Net
twice = puts (puts (puts (puts (puts (puts (fresh_net 0 3) Output 0 (2 ∷ [])) Input 1 (1 ∷ 4 ∷ [])) Output 1 (4 ∷ 8 ∷ [])) Input 2 (2 ∷ [])) Output 2 (2 ∷ [])) Input 3 (2 ∷ [])

-- the arcs (0, 1), (1, 1) and (1, 2)
loop : Net
loop = puts (puts (puts (puts (fresh_net 0 2) Output 0 (2 ∷ [])) Input 1 (1 ∷ 2 ∷ [])) Output 1 (2 ∷ 4 ∷ [])) Input 2 (2 ∷ [])

says :
    map check_says (F ∷ named_only ∷ twice ∷ loop ∷ fresh_net 7 3 ∷ fresh_net 3 3 ∷ [])
    ≡ accepted 4 ∷ refused 6 5 ∷ accepted 4 ∷ accepted 3 ∷ refused 6 3 ∷ refused 2 0 ∷ []
unfolding F named_only twice loop puts fresh_net put_gives grows put_says side_says misplaced insert insert_at place_in listed check_says lowest_member lost unanswered unanswered_on outside successors predecessors in_net on_sides reach rounds one_round rows rows_from arcs arc names named those those_below with_if sum_below number any_below orderly sized ends_ok sides_ok block_ok counts_ok kind_ok all_below ascends_above zeros members members_from keep union single member bit
says = refl

-- F with one more set, or with two: 1 names 2, without its partner and with it; 2 names 1 on its input side, or on its output side;
-- 1 names itself on one side, and on both; 1 and 2 name the start
partners :
    map check_says
    (put_gives F Output 1 4
    ∷ put_gives (put_gives F Output 1 4) Input 2 2
    ∷ put_gives F Input 2 2
    ∷ put_gives F Output 2 2
    ∷ put_gives F Input 1 2
    ∷ put_gives (put_gives F Input 1 2) Output 1 2
    ∷ put_gives (put_gives F Output 2 1) Output 1 1
    ∷ [])
    ≡ refused 19 1 ∷ accepted 5 ∷ refused 19 2 ∷ refused 19 2 ∷ refused 19 1 ∷ accepted 5 ∷ refused 19 1 ∷ []
unfolding F fresh_net put_gives grows put_says side_says misplaced insert insert_at place_in listed check_says lowest_member lost unanswered unanswered_on outside successors predecessors in_net on_sides reach rounds one_round rows rows_from arcs arc names named those those_below with_if sum_below number any_below orderly sized ends_ok sides_ok block_ok counts_ok kind_ok all_below ascends_above zeros members members_from keep union single member bit
partners = refl
