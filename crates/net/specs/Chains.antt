-- A call's refusals as a chain of tests in the papers' order: the first test that fails gives its refusal.
use Rattle.std.specs.Prelude.{ℕ, Bool, cond, eqb}
use Rattle.net.specs.Refusals.{Says, refused}

-- the rest of the chain if the test passes, else the refusal n with this place; `refusal` is how an answer says one
abbrev pub unless_by : {A : Type 0} → (ℕ → ℕ → A) → Bool → ℕ → ℕ → A → A
unless_by refusal test n place rest = cond test rest (refusal n place)

-- of what a call says
abbrev pub unless_at : Bool → ℕ → ℕ → Says → Says
unless_at test n place rest = unless_by refused test n place rest

-- the same with place 0
abbrev pub unless : Bool → ℕ → Says → Says
unless test n rest = unless_at test n 0 rest

-- the rest of the chain if the position is 0, which says that a sentence holds at none, else the refusal n there
abbrev pub none_at : ℕ → ℕ → Says → Says
none_at position n rest = unless_at (eqb position 0) n position rest
