-- Containment (01, "Learning and containment"): as a test that computes, and as facts in the paper's words.
use Rattle.std.specs.Prelude.{ℕ, zero, suc, ◌<◌, ◌≡◌, Bool, cond, ◌&&◌, List, [], ◌∷◌, Result, eqb}
use Rattle.obligations.specs.Limits.{activities}
use Rattle.obligations.specs.Tests.{indicator}
use Rattle.net.specs.Refusals.{Says, means, accepted, disorderly}
use Rattle.net.specs.Sentences.{Sentence, first}
use Rattle.net.specs.Chains.{unless_at}
use Rattle.net.specs.Lists.{all_below, all_listed}
use Rattle.net.specs.Sides.{sets_in, OnSide}
use Rattle.net.specs.Orderly.{Orderly, orderly}
use Rattle.net.specs.declared.Net.{Net}
use Rattle.net.specs.declared.sides.Side.{Side}
use Rattle.net.specs.declared.sides.Sides.{Sides}
use Rattle.net.specs.declared.refusal.Refused.{Refused}

-- what each answer means: yes is 1 and no is 0
abbrev pub contained_means : Result Bool Refused → Says
contained_means answer = means indicator answer

-- each side of one kind has its sets among the other net's
unfoldable pub sides_within : Sides → Sides → Bool
sides_within sides other = all_below activities (λ a. all_listed (sets_in sides a) (sets_in other a))

unfoldable pub contained : Net → Net → Bool
contained net other =
    eqb net.start other.start
    && (eqb net.end other.end
    && (sides_within net.inputs other.inputs && sides_within net.outputs other.outputs))

-- the first of the two nets, and the second
abbrev pub of_two : Net → Net → ℕ → Net
of_two net other zero = net
of_two net other (suc i) = other

-- 2: a record isn't orderly, with 1 or 2 for the net
abbrev pub contained_refusals : Net → Net → List Sentence
contained_refusals net other = first disorderly 2 (λ i. Orderly (of_two net other i) → ⊥) ∷ []

unfoldable pub contained_says : Net → Net → Says
contained_says net other =
    unless_at (orderly net) disorderly 1
    (unless_at (orderly other) disorderly 2
    (cond (contained net other) (accepted 1) (accepted 0)))

-- a net is contained in another: start and end agree and each side's sets are among the other's
pub record Contained (net other : Net) : Type 0 where
  pub same_start : net.start ≡ other.start
  pub same_end : net.end ≡ other.end
  pub among : (side : Side) (a m : ℕ) → a < activities → OnSide net side a m → OnSide other side a m
