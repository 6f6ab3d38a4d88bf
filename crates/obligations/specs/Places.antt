-- The places of a state's counts that a set of activities selects.
use Rattle.std.specs.Prelude.{ℕ, ◌+◌, ◌*◌, List, map}
use Rattle.obligations.specs.Sets.{members}

-- one for each member k, at base + k * stride
unfoldable pub places_of : ℕ → ℕ → ℕ → List ℕ
places_of base stride m = map (λ k. base + k * stride) (members m)
