-- The papers' examples of sequences, for the examples of every crate.
use Rattle.std.specs.Prelude.{ℕ, List, [], ◌∷◌}

-- 003's Fig. 4 sequence, three words a position, with its activities a to e as 0 to 4
unfoldable pub fig4 : List ℕ
fig4 = 0 ∷ 0 ∷ 2 ∷ 1 ∷ 1 ∷ 6 ∷ 1 ∷ 2 ∷ 12 ∷ 2 ∷ 2 ∷ 8 ∷ 2 ∷ 2 ∷ 8 ∷ 3 ∷ 6 ∷ 8 ∷ 3 ∷ 12 ∷ 16 ∷ 4 ∷ 8 ∷ 0 ∷ []

-- 003's sequence of its Fig. 1, with activities a to e as 0 to 4: the trip for which hotel, flight and car are booked
unfoldable pub trip : List ℕ
trip = 0 ∷ 0 ∷ 14 ∷ 3 ∷ 1 ∷ 16 ∷ 1 ∷ 1 ∷ 20 ∷ 2 ∷ 3 ∷ 16 ∷ 4 ∷ 14 ∷ 0 ∷ []
