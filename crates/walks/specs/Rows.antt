-- Rows: for each activity a set of activities, those that are one step on from it. Reach is computed on them in rounds.
use Rattle.std.specs.Prelude.{ℕ, zero, suc, ◌≡◌, Bool, true, List, [], ◌∷◌, map, get_or, fold}
use Rattle.obligations.specs.Limits.{activities}
use Rattle.obligations.specs.Sets.{member, single, union, members}

-- b is in row a
unfoldable pub has : List ℕ → ℕ → ℕ → Bool
has rows a b = member (get_or rows a 0) b

abbrev pub Has : List ℕ → ℕ → ℕ → Type 0
Has rows a b = has rows a b ≡ true

-- f at n numbers from k on, and at each activity
unfoldable pub rows_from : ℕ → ℕ → (ℕ → ℕ) → List ℕ
rows_from k zero f = []
rows_from k (suc n) f = f k ∷ rows_from (suc k) n f

unfoldable pub rows : (ℕ → ℕ) → List ℕ
rows f = rows_from 0 activities f

-- the rows of several activities
abbrev pub rows_at : List ℕ → List ℕ → List ℕ
rows_at rows which = map (λ a. get_or rows a 0) which

-- the set, with all that are one step on from its members
unfoldable pub one_round : List ℕ → ℕ → ℕ
one_round next seen = fold union seen (rows_at next (members seen))

unfoldable pub rounds : ℕ → List ℕ → ℕ → ℕ
rounds zero next seen = seen
rounds (suc n) next seen = rounds n next (one_round next seen)

-- all that are reached from an activity, itself among them; as there are 32 activities, 32 rounds are enough
unfoldable pub reach : List ℕ → ℕ → ℕ
reach next from = rounds activities next (single from)
