-- What inner functions leave and answer: no sentence of the papers speaks of these.
use Rattle.std.specs.Prelude.{ℕ, ◌+◌, ◌*◌, ◌≤◌, ◌<◌, ◌≡◌, true, false, cond, List, Result, Ok, Err, ltb, length, get_or}
use Rattle.obligations.specs.Limits.{activities, positions}
use Rattle.obligations.specs.Sets.{single}
use Rattle.obligations.specs.Sequence.{bindings, at}
use Rattle.obligations.specs.declared.sequence.Binding.{Binding}
use Rattle.net.specs.Refusals.{Says, refused, refusal_number}
use Rattle.net.specs.Put.{side_says}
use Rattle.net.specs.declared.Net.{Net}
use Rattle.net.specs.declared.sides.Sides.{Sides}
use Rattle.net.specs.declared.refusal.Refusal.{Refusal}
use Rattle.net.specs.declared.refusal.Refusal.TheVariants.{FullSide}
use Rattle.net.specs.declared.refusal.Refused.{Refused}
use Rattle.sequences.specs.Gain.{used_sides, topped_counts, gained}
use Rattle.sequences.specs.Learn.{learn_means, gain_says}
use Rattle.sequences.specs.declared.gaining.Added.{Added}

-- ---- chains

-- what a chain of refusals says whose first tests have this answer, where `rest` is what it says behind them
abbrev pub says_after : {T : Type 0} → Result T Refused → Says → Says
says_after (Ok v) rest = rest
says_after (Err r) rest = refused (refusal_number r.refusal) r.place

-- ---- limits

-- what refusals 3 and 4 leave: a multiple of three words, within the limit, and activities below 32
pub record WithinLimits (ws : List ℕ) : Type 0 where
  pub whole : length ws ≡ 3 * length (bindings ws)
  pub few : length (bindings ws) ≤ positions
  pub activities_only : (i : ℕ) → i < length (bindings ws) → (at (bindings ws) i).activity < activities

pub record TraceWithinLimits (trace : List ℕ) : Type 0 where
  pub few : length trace ≤ positions
  pub activities_only : (i : ℕ) → i < length trace → get_or trace i 0 < activities

-- ---- gaining

-- how many sets a put adds, if it is accepted, and how many counts couldn't be raised
unfoldable pub gained_by : Says → ℕ → Result Added Refusal
gained_by says tops = cond says.ok (Ok (record { sets = says.value; topped = tops })) (Err FullSide)

-- what a set for activity a's side leaves of the sides of its kind
pub record SetGained (sides : Sides) (empty a m : ℕ) (r : Result Added Refusal) (sides' : Sides) : Type 0 where
  pub adds : r ≡ gained_by (side_says sides empty a m) (topped_counts sides empty a m)
  pub taken : (side_says sides empty a m).ok ≡ true → sides' ≡ used_sides sides empty a m
  pub stayed : (side_says sides empty a m).ok ≡ false → sides' ≡ sides

-- refusals 12 and 21 alone, for a sequence that no other refusal holds of
pub record GainLeft (net : Net) (s : List Binding) (answer : Result ℕ Refused) (net' : Net) : Type 0 where
  pub says : learn_means answer ≡ gain_says net s
  pub gives : net' ≡ cond (gain_says net s).ok (gained net s) net

-- ---- follow

-- the Y of the position after i others
unfoldable pub next_set : List ℕ → ℕ → ℕ
next_set trace i = cond (ltb (i + 1) (length trace)) (single (get_or trace (i + 1) 0)) 0
