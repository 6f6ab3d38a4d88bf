-- The sides of a net (01, "The net and its sets"): each activity's list of sets of one kind. The sides of one kind are an
-- array of masks, 16 places for each activity, an array of list lengths, and an array of counts beside the masks.
use Rattle.std.specs.Prelude.{ℕ, ◌+◌, ◌*◌, ◌<◌, ◌≡◌, true, cond, List, [], ◌∷◌, eqb, take, drop, get_or}
use Rattle.obligations.specs.Limits.{masks}
use Rattle.obligations.specs.State.{total}
use Rattle.net.specs.Limits.{sets, places}
use Rattle.net.specs.Lists.{listed, place_in, blank}
use Rattle.net.specs.declared.Net.{Net}
use Rattle.net.specs.declared.sides.Side.{Side}
use Rattle.net.specs.declared.sides.Side.TheVariants.{Input, Output}
use Rattle.net.specs.declared.sides.Sides.{Sides}

-- all sides of one kind
abbrev pub sides_of : Net → Side → Sides
sides_of net Input = net.inputs
sides_of net Output = net.outputs

-- all masks of one kind, and all list lengths
abbrev pub masks_of : Net → Side → List ℕ
masks_of net side = (sides_of net side).masks

abbrev pub lengths_of : Net → Side → List ℕ
lengths_of net side = (sides_of net side).lengths

-- the counts of uses, at the places of the masks (02, (viii))
abbrev pub counts_of : Net → Side → List ℕ
counts_of net side = (sides_of net side).counts

-- the other kind of side
abbrev pub opposite : Side → Side
opposite Input = Output
opposite Output = Input

-- the activity whose side of this kind holds just the empty set: the start's inputs, the end's outputs
abbrev pub empty_at : Net → Side → ℕ
empty_at net Input = net.start
empty_at net Output = net.end

-- the sides with other counts
abbrev pub with_counts : Sides → List ℕ → Sides
with_counts sides counts = record { masks = sides.masks; lengths = sides.lengths; counts = counts }

-- the sides with these masks and lengths, and counts 0
abbrev pub uncounted_sides : List ℕ → List ℕ → Sides
uncounted_sides masks lengths = record { masks = masks; lengths = lengths; counts = blank places }

-- a net with counts 0 in place of its own
abbrev pub uncounted : Net → Net
uncounted net = record { start = net.start; end = net.end; inputs = with_counts net.inputs (blank places); outputs = with_counts net.outputs (blank places) }

-- two nets differ in their counts alone, or not at all
abbrev pub SameButCounts : Net → Net → Type 0
SameButCounts net other = uncounted net ≡ uncounted other

-- the 16 places of activity a in an array, and the first n of them
abbrev pub block : List ℕ → ℕ → List ℕ
block array a = take sets (drop (sets * a) array)

abbrev pub first_of : List ℕ → ℕ → ℕ → List ℕ
first_of array a n = take n (drop (sets * a) array)

-- the sets on activity a's side, and their counts in the same order
abbrev pub sets_in : Sides → ℕ → List ℕ
sets_in sides a = first_of sides.masks a (get_or sides.lengths a 0)

abbrev pub counts_in : Sides → ℕ → List ℕ
counts_in sides a = first_of sides.counts a (get_or sides.lengths a 0)

-- where m stands on activity a's side or would stand there, among all places of this kind of side
abbrev pub place_on : Sides → ℕ → ℕ → ℕ
place_on sides a m = sets * a + place_in m (sets_in sides a)

-- the sets on activity a's side of a net, and their counts
abbrev pub sets_on : Net → Side → ℕ → List ℕ
sets_on net side a = sets_in (sides_of net side) a

abbrev pub counts_on : Net → Side → ℕ → List ℕ
counts_on net side a = counts_in (sides_of net side) a

-- the count beside m, in a list of sets and one of their counts, and 0 if m isn't there
unfoldable pub count_in : ℕ → List ℕ → List ℕ → ℕ
count_in m [] counts = 0
count_in m (x ∷ xs) [] = 0
count_in m (x ∷ xs) (c ∷ cs) = cond (eqb x m) c (count_in m xs cs)

-- how often m was used on activity a's side
abbrev pub count_of : Net → Side → ℕ → ℕ → ℕ
count_of net side a m = count_in m (sets_on net side a) (counts_on net side a)

-- m is a set on activity a's side
abbrev pub OnSide : Net → Side → ℕ → ℕ → Type 0
OnSide net side a m = listed m (sets_on net side a) ≡ true

-- every mask of the record has 32 bits, as in every record of a program
abbrev pub Masks : Net → Type 0
Masks net = (side : Side) (i : ℕ) → get_or (masks_of net side) i 0 < masks

-- how many sets a net holds
abbrev pub net_size : Net → ℕ
net_size net = total net.inputs.lengths + total net.outputs.lengths
