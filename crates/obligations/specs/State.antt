-- The state of pending obligations and the step of a binding (01, "Obligations and the step"; 02, (i)).
use Rattle.std.specs.Prelude.{ℕ, ◌+◌, ◌-◌, ◌*◌, ◌≤◌, ◌<◌, ◌≡◌, ◌↔◌, Bool, true, cond, ◌&&◌, List, [], ◌∷◌, leb, eqb, get_or, set, length, replicate, Option, Some, None}
use Rattle.obligations.specs.Limits.{activities, pairs}
use Rattle.obligations.specs.Sets.{member}
use Rattle.obligations.specs.Places.{places_of}
use Rattle.obligations.specs.declared.places.Places.{Places}

-- how often q is still due because of p; a state is the list of these counts, the 32 of each q together
unfoldable pub count : List ℕ → ℕ → ℕ → ℕ
count d p q = get_or d (q * activities + p) 0

-- the state in which nothing is due
abbrev pub nothing : List ℕ
nothing = replicate pairs 0

-- of the code alone: the places that a walk over them has left
abbrev pub places_left : Places → List ℕ
places_left w = places_of w.base w.stride w.members.rest

-- the places of (p, a) for p in x
unfoldable pub inputs : ℕ → ℕ → List ℕ
inputs a x = places_of (a * activities) 1 x

-- the places of (a, q) for q in y
unfoldable pub outputs : ℕ → ℕ → List ℕ
outputs a y = places_of a activities y

-- each of the places has a count of at least 1
unfoldable pub all_due : List ℕ → List ℕ → Bool
all_due d [] = true
all_due d (i ∷ is) = leb 1 (get_or d i 0) && all_due d is

-- one less at each of the places
unfoldable pub lowered : List ℕ → List ℕ → List ℕ
lowered d [] = d
lowered d (i ∷ is) = lowered (set d i (get_or d i 0 - 1)) is

-- one more at each of the places
unfoldable pub raised : List ℕ → List ℕ → List ℕ
raised d [] = d
raised d (i ∷ is) = raised (set d i (get_or d i 0 + 1)) is

-- of the code alone: s is the set of those because of which a is due, of the p with a count of (p, a) of at least 1
abbrev pub Causes : List ℕ → ℕ → ℕ → Type 0
Causes d a s = (p : ℕ) → p < activities → (member s p ≡ true) ↔ (1 ≤ count d p a)

-- a binding of a with the input set x is possible: every (p, a) with p in x has a count of at least 1
unfoldable pub possible : List ℕ → ℕ → ℕ → Bool
possible d a x = all_due d (inputs a x)

-- one taken from each (p, a) with p in x
unfoldable pub taken : List ℕ → ℕ → ℕ → List ℕ
taken d a x = lowered d (inputs a x)

-- one added to each (a, q) with q in y
unfoldable pub added : List ℕ → ℕ → ℕ → List ℕ
added d a y = raised d (outputs a y)

-- the state after the binding (a, x, y)
unfoldable pub after : List ℕ → ℕ → ℕ → ℕ → List ℕ
after d a x y = added (taken d a x) a y

-- every (a, q) with q in y has a count of at least 1, as after a step that added it
unfoldable pub covers : List ℕ → ℕ → ℕ → Bool
covers d a y = all_due d (outputs a y)

-- `added` undone, `taken` undone, and both: the state before the binding (a, x, y)
unfoldable pub unadded : List ℕ → ℕ → ℕ → List ℕ
unadded d a y = lowered d (outputs a y)

unfoldable pub untaken : List ℕ → ℕ → ℕ → List ℕ
untaken d a x = raised d (inputs a x)

unfoldable pub before : List ℕ → ℕ → ℕ → ℕ → List ℕ
before d a x y = untaken (unadded d a y) a x

-- every count is zero
unfoldable pub all_zero : List ℕ → Bool
all_zero [] = true
all_zero (n ∷ ns) = eqb n 0 && all_zero ns

-- the total of all counts
unfoldable pub total : List ℕ → ℕ
total [] = 0
total (n ∷ ns) = n + total ns

-- what the step of the binding (a, x, y) reports: the total of all counts after it, or nothing if the binding isn't possible
unfoldable pub step_says : List ℕ → ℕ → ℕ → ℕ → Option ℕ
step_says d a x y = cond (possible d a x) (Some (total (after d a x y))) None

-- the state that it leaves: the one after a possible binding, the same one after any other
unfoldable pub step_gives : List ℕ → ℕ → ℕ → ℕ → List ℕ
step_gives d a x y = cond (possible d a x) (after d a x y) d

-- d is a state in which no count is above n
pub record State (n : ℕ) (d : List ℕ) : Type 0 where
  pub long : length d ≡ pairs
  pub small : (i : ℕ) → get_or d i 0 ≤ n

-- of the code alone: the most that a count may be before a step, so that a byte holds one more
abbrev pub most_due : ℕ
most_due = 254
