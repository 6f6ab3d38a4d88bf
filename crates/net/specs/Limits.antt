-- The papers' limits on a net, each named once; those on activities are in `obligations`.
use Rattle.std.specs.Prelude.{ℕ}

-- a side holds at most this many sets
abbrev pub sets : ℕ
sets = 16

-- the places of all sides of one kind: 16 for each of the 32 activities
abbrev pub places : ℕ
places = 512

-- so many uses of a set are counted at most (02, (viii))
abbrev pub most_uses : ℕ
most_uses = 4294967295
