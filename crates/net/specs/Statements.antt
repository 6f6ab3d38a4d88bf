-- What is proved of the definitions (01, "The net and its sets", "Learning and containment"): the order of refusals is that of their
-- numbers, but for 19 (02, (iv)); the tests are the facts that the paper states; an orderly record is determined by its start, its end,
-- and the sets on its sides with their counts; a fresh net holds two empty sets and nothing else, put adds one set to one side and
-- nothing else, and containment passes over the counts. The proofs are in proofs/Theorems.antt.
use Rattle.std.specs.Prelude.{ℕ, ◌+◌, ◌<◌, ◌≡◌, true, false, Ok, ◌↔◌, ◌⊎◌}
use Rattle.net.specs.Sides.{empty_at, SameButCounts, count_of, OnSide, net_size}
use Rattle.net.specs.Refusals.{refused, on_no_walk, wrong_ends, name_unanswered}
use Rattle.net.specs.Sentences.{order_of, NoneHolds, AsListed}
use Rattle.net.specs.Orderly.{Orderly, orderly}
use Rattle.net.specs.Fresh.{fresh_means, fresh_net, fresh_refusals, fresh_says, fresh_gives}
use Rattle.net.specs.Put.{put_means, put_refusals, put_says, put_gives}
use Rattle.net.specs.Contained.{Contained, contained, contained_means, contained_refusals, contained_says}
use Rattle.net.specs.declared.Net.{Net}
use Rattle.net.specs.declared.sides.Side.{Side}

-- the papers' order is that of the numbers, but for 19, which comes after 6 and before 7
pub record PapersOrder : Type 0 where
  pub by_number : (m n : ℕ) → (m ≡ name_unanswered → ⊥) → (n ≡ name_unanswered → ⊥) → (order_of m < order_of n) ↔ (m < n)
  pub after_six : order_of on_no_walk < order_of name_unanswered
  pub before_seven : order_of name_unanswered < order_of wrong_ends

-- the test of a record is the paper's
abbrev pub OrderlyTestRight : Type 0
OrderlyTestRight = (net : Net) → (orderly net ≡ true) ↔ Orderly net

-- two nets have the same start and end, and on each side the same sets with the same counts of uses
pub record Alike (net other : Net) : Type 0 where
  pub same_start : net.start ≡ other.start
  pub same_end : net.end ≡ other.end
  pub same_sets : (side : Side) (a m : ℕ) → OnSide net side a m ↔ OnSide other side a m
  pub same_counts : (side : Side) (a m : ℕ) → count_of net side a m ≡ count_of other side a m

-- an orderly record is determined by this: two that are alike are equal, word for word (02, (ix))
abbrev pub AlikeEqual : Type 0
AlikeEqual = (net other : Net) → Orderly net → Orderly other → Alike net other → net ≡ other

-- the test of containment is the paper's
abbrev pub ContainedTestRight : Type 0
ContainedTestRight = (net other : Net) → (contained net other ≡ true) ↔ Contained net other

-- a fresh net holds the empty set on the start's input side and on the end's output side, and nothing else; neither was used
pub record Fresh (start end : ℕ) (net : Net) : Type 0 where
  pub start_is : net.start ≡ start
  pub end_is : net.end ≡ end
  pub is_orderly : Orderly net
  pub two_empty : (side : Side) (a m : ℕ) → OnSide net side a m ↔ ((a ≡ empty_at net side) × (m ≡ 0))
  pub never_used : (side : Side) (a m : ℕ) → count_of net side a m ≡ 0

-- fresh is accepted exactly if no refusal holds, and then returns such a net
abbrev pub FreshSaid : Type 0
FreshSaid = (start end : ℕ) → (fresh_says start end ≡ fresh_means (Ok tt)) ↔ NoneHolds (fresh_refusals start end)

abbrev pub FreshHolds : Type 0
FreshHolds = (start end : ℕ) → fresh_says start end ≡ fresh_means (Ok tt) → Fresh start end (fresh_gives start end)

-- a refused fresh returns the fresh net of 0 and 1
abbrev pub FreshRefused : Type 0
FreshRefused = (start end number place : ℕ) → fresh_says start end ≡ refused number place → fresh_gives start end ≡ fresh_net 0 1

-- the second net is the first with m on activity a's side, and nothing else; the value says whether it was new. No count changes,
-- and a new set has count 0
pub record Put (net : Net) (side : Side) (a m new : ℕ) (after : Net) : Type 0 where
  pub same_start : after.start ≡ net.start
  pub same_end : after.end ≡ net.end
  pub is_orderly : Orderly after
  pub on_sides : (t : Side) (b x : ℕ) → OnSide after t b x ↔ (OnSide net t b x ⊎ ((t ≡ side) × (b ≡ a) × (x ≡ m)))
  pub grown_by : net_size after ≡ net_size net + new
  pub same_counts : (t : Side) (b x : ℕ) → count_of after t b x ≡ count_of net t b x
  pub new_uncounted : (OnSide net side a m → ⊥) → count_of after side a m ≡ 0

-- put is accepted exactly if no refusal holds, and says whether the set was new
abbrev pub PutSaid : Type 0
PutSaid =
    (net : Net) (side : Side) (a m : ℕ)
    → ((put_says net side a m ≡ put_means (Ok true)) ↔ (NoneHolds (put_refusals net side a m) × (OnSide net side a m → ⊥)))
    × ((put_says net side a m ≡ put_means (Ok false)) ↔ (NoneHolds (put_refusals net side a m) × OnSide net side a m))

abbrev pub PutHolds : Type 0
PutHolds =
    (net : Net) (side : Side) (a m : ℕ)
    → (put_says net side a m ≡ put_means (Ok true) → Put net side a m 1 (put_gives net side a m))
    × (put_says net side a m ≡ put_means (Ok false) → Put net side a m 0 (put_gives net side a m))

-- a refused put returns the very record given
abbrev pub PutRefusedSame : Type 0
PutRefusedSame = (net : Net) (side : Side) (a m number place : ℕ) → put_says net side a m ≡ refused number place → put_gives net side a m ≡ net

-- containment is answered yes or no by the paper's sentence, of two orderly records
abbrev pub ContainedSaid : Type 0
ContainedSaid =
    (net other : Net)
    → ((contained_says net other ≡ contained_means (Ok true)) ↔ (Orderly net × Orderly other × Contained net other))
    × ((contained_says net other ≡ contained_means (Ok false)) ↔ (Orderly net × Orderly other × (Contained net other → ⊥)))

-- containment passes over the counts of orderly records (02, (viii))
abbrev pub ContainedPassesOver : Type 0
ContainedPassesOver =
    (net net' other other' : Net) → Orderly net → Orderly net' → Orderly other → Orderly other' → SameButCounts net net' → SameButCounts other other'
    → contained_says net other ≡ contained_says net' other'

-- ---- the refusals: each call is refused exactly as its sentences are listed, and else accepted

abbrev pub FreshListed : Type 0
FreshListed = (start end : ℕ) → AsListed refused (fresh_refusals start end) (fresh_says start end)

abbrev pub PutListed : Type 0
PutListed = (net : Net) (side : Side) (a m : ℕ) → AsListed refused (put_refusals net side a m) (put_says net side a m)

abbrev pub ContainedListed : Type 0
ContainedListed = (net other : Net) → AsListed refused (contained_refusals net other) (contained_says net other)
