-- Laws for writing a member list: the lowest member first, then each of the others after a space, until none is left.
-- Assumes nothing.
use Rattle.std.proofs.Common.{ℕ, ◌≡◌, List, [], ◌∷◌, ◌++◌, map}
use Rattle.obligations.specs.Sets.{members}
use Rattle.text.specs.Fields.{space, led}
use Rattle.text.specs.Decimal.{print_number}
use Rattle.text.specs.Members.{print_members}

-- members after the first, each with a space before it
abbrev pub spaced : List ℕ → List ℕ
spaced ks = led space (map print_number ks)

pub print_none : (m : ℕ) → members m ≡ [] → print_members m ≡ []
unfolding print_members
print_none m e = rw e

pub print_first : (m k : ℕ) (ks : List ℕ) → members m ≡ k ∷ ks → print_members m ≡ print_number k ++ spaced ks
unfolding print_members
print_first m k ks e = rw e
