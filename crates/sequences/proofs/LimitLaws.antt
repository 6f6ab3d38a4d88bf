-- Refusals 3 and 4: what each answer of the test of limits shows. The activities of a sequence are every third word, so the
-- code's test on words is the definition's on bindings. Assumes nothing.
use Prim.Native.Nat.{ℕ, ◌*◌, ◌%◌, ◌≤◌, ◌<◌}
use mathlib.Core.Path.{◌≡◌, sym, ap, ◌∙◌}
use mathlib.Core.Bool.{Bool, true, false, ◌&&◌, and-false}
use mathlib.Core.List.{List}
use native.Mathlib.Omega.{arith}
use borrow.Author.Tests.{eq-eqb, ne_eqb, le-leb, lt-leb}
use lib.Dec.{eqb}
use Rattle.std.proofs.Common.{Some, None}
use lib.ListN.{length, get_or}
use Rattle.obligations.specs.Limits.{positions}
use Rattle.obligations.specs.Tests.{position_of}
use Rattle.obligations.specs.Trace.{first_no_activity}
use Rattle.obligations.specs.Sequence.{bindings, at}
use Rattle.obligations.proofs.PositionLaws.{none_position, some_position}
use Rattle.obligations.proofs.TraceLaws.{no_activity_ext, activities_below}
use Rattle.obligations.proofs.SequenceLaws.{held_at, length-bindings}
use Rattle.net.specs.Refusals.{Says, refused}
use Rattle.sequences.specs.Limits.{words_within, within_limits, trace_within_limits}
use Rattle.sequences.specs.Inner.{WithinLimits, TraceWithinLimits}

-- ---- sequences

pub words_uneven : (ws : List ℕ) → (length ws % 3 ≡ 0 → ⊥) → words_within ws ≡ false
unfolding words_within
words_uneven ws ne = rw (ne_eqb (length ws % 3) 0 ne)

pub words_many : (ws : List ℕ) → 3 * positions < length ws → words_within ws ≡ false
unfolding words_within
words_many ws h = ap (λ (t : Bool). eqb (length ws % 3) 0 && t) (lt-leb (length ws) (3 * positions) h) ∙ and-false (eqb (length ws % 3) 0)

pub words_fit : (ws : List ℕ) → length ws % 3 ≡ 0 → length ws ≤ 3 * positions → words_within ws ≡ true
unfolding words_within
words_fit ws e h = rw (eq-eqb (length ws % 3) 0 e, le-leb (length ws) (3 * positions) h)

pub limits_too_long : (ws : List ℕ) → words_within ws ≡ false → (rest : Says) → refused 3 0 ≡ within_limits ws rest
unfolding within_limits
limits_too_long ws f rest = rw f

module _ (ws : List ℕ) (n : ℕ) (few : n ≤ positions) (l : length ws ≡ 3 * n) where
  within : words_within ws ≡ true
  within = words_fit ws (omega arith) (omega arith)

  pub positions_many : n ≡ length (bindings ws)
  positions_many = sym (length-bindings ws n l)

  -- the code's test on words is the definition's on bindings
  first_same : first_no_activity (length (bindings ws)) (λ i. (at (bindings ws) i).activity) ≡ first_no_activity n (λ i. get_or ws (3 * i) 0)
  first_same =
      ap (λ (k : ℕ). first_no_activity k (λ i. (at (bindings ws) i).activity)) (sym positions_many)
      ∙ no_activity_ext n (λ i. (at (bindings ws) i).activity) (λ i. get_or ws (3 * i) 0) (λ i h. (held_at ws i (omega (arith, positions_many))).activity_held)

  pub limits_no_activity : (place : ℕ) → position_of (first_no_activity n (λ i. get_or ws (3 * i) 0)) ≡ Some place → (rest : Says) → refused 4 place ≡ within_limits ws rest
  unfolding within_limits
  limits_no_activity place e rest = let p = some_position _ place e in rw (within, first_same, p.0, ne_eqb place 0 (λ z. omega (arith, p.1)))

  module _ (e : position_of (first_no_activity n (λ i. get_or ws (3 * i) 0)) ≡ None) where
    none_there : first_no_activity n (λ i. get_or ws (3 * i) 0) ≡ 0
    none_there = none_position _ e

    pub limits_within : (rest : Says) → rest ≡ within_limits ws rest
    unfolding within_limits
    limits_within rest = rw (within, first_same, none_there)

    pub limits_facts : WithinLimits ws
    limits_facts = record {
      whole = omega (arith, positions_many);
      few = omega (arith, positions_many);
      activities_only = activities_below (length (bindings ws)) (λ i. (at (bindings ws) i).activity) (first_same ∙ none_there);
    }

-- ---- traces

pub trace_too_long : (trace : List ℕ) → positions < length trace → (rest : Says) → refused 3 0 ≡ trace_within_limits trace rest
unfolding trace_within_limits
trace_too_long trace h rest = rw (lt-leb (length trace) positions h)

module _ (trace : List ℕ) (h : length trace ≤ positions) where
  one_apart : first_no_activity (length trace) (λ i. get_or trace i 0) ≡ first_no_activity (length trace) (λ i. get_or trace (1 * i) 0)
  one_apart = no_activity_ext (length trace) (λ i. get_or trace i 0) (λ i. get_or trace (1 * i) 0) (λ i l. ap (λ (k : ℕ). get_or trace k 0) (omega arith))

  pub trace_no_activity : (place : ℕ) → position_of (first_no_activity (length trace) (λ i. get_or trace (1 * i) 0)) ≡ Some place → (rest : Says) → refused 4 place ≡ trace_within_limits trace rest
  unfolding trace_within_limits
  trace_no_activity place e rest =
      let p = some_position _ place e in rw (le-leb (length trace) positions h, one_apart, p.0, ne_eqb place 0 (λ z. omega (arith, p.1)))

  module _ (e : position_of (first_no_activity (length trace) (λ i. get_or trace (1 * i) 0)) ≡ None) where
    pub trace_within_said : (rest : Says) → rest ≡ trace_within_limits trace rest
    unfolding trace_within_limits
    trace_within_said rest = rw (le-leb (length trace) positions h, one_apart, none_position _ e)

    pub trace_facts : TraceWithinLimits trace
    trace_facts = record { few = h; activities_only = activities_below (length trace) (λ i. get_or trace i 0) (one_apart ∙ none_position _ e) }
