-- The papers' limits, each named once.
use Rattle.std.specs.Prelude.{ℕ, ◌^◌}

-- activities are the numbers below this
abbrev pub activities : ℕ
activities = 32

-- a set's mask is below this: one bit for each activity
abbrev pub masks : ℕ
masks = 2 ^ 32

-- the pairs (p, q) of activities, which is how many counts a state has
abbrev pub pairs : ℕ
pairs = 1024

-- a sequence or a trace has at most this many positions (02, (ii))
abbrev pub positions : ℕ
positions = 96
