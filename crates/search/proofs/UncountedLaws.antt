-- Replay passes over counts: the search reads the sides alone, and the tests before it do or pass over them. Assumes nothing.
use Prim.Native.Nat.{ℕ}
use mathlib.Core.Path.{◌≡◌, refl, ◌∙◌}
use mathlib.Core.Bool.{true}
use mathlib.Core.List.{List}
use lib.ListN.{length}
use Rattle.net.specs.Sides.{uncounted}
use Rattle.net.specs.Orderly.{orderly}
use Rattle.net.specs.declared.Net.{Net}
use Rattle.net.proofs.UncountedLaws.{uncounted-orderly}
use Rattle.walks.proofs.UncountedLaws.{passing-uncounted}
use Rattle.search.specs.Search.{search_of}
use Rattle.search.specs.Replay.{replayed, checked_says, checked_gives, CheckedDone, replay_tests, replay_says, replay_gives}
use Rattle.search.specs.declared.Outcome.{Outcome}

replayed-uncounted : (net : Net) (trace : List ℕ) → replayed (uncounted net) trace ≡ replayed net trace
unfolding replayed search_of
replayed-uncounted net trace = refl

pub checked_says-uncounted : (net : Net) (trace : List ℕ) (budget : ℕ) → checked_says (uncounted net) trace budget ≡ checked_says net trace budget
unfolding checked_says
checked_says-uncounted net trace budget = rw (replayed-uncounted net trace)

checked_gives-uncounted : (net : Net) (trace : List ℕ) (budget : ℕ) (out : List ℕ) → checked_gives (uncounted net) trace budget out ≡ checked_gives net trace budget out
unfolding checked_gives
checked_gives-uncounted net trace budget out = rw (replayed-uncounted net trace)

-- what is done with a net without its counts is done with the net
pub checked_done_uncounted : (net : Net) (trace : List ℕ) (budget : ℕ) (o : Outcome) (out out' : List ℕ) → CheckedDone (uncounted net) trace budget o out out' → CheckedDone net trace budget o out out'
checked_done_uncounted net trace budget o out out' d = record { says = d.says ∙ checked_says-uncounted net trace budget; gives = d.gives ∙ checked_gives-uncounted net trace budget out }

module _ (net : Net) (o : orderly net ≡ true) where
  tests_uncounted : (trace : List ℕ) (room : ℕ) → replay_tests (uncounted net) trace room ≡ replay_tests net trace room
  unfolding replay_tests
  tests_uncounted trace room = rw (uncounted-orderly net o, o, passing-uncounted net)

  pub replay_says_uncounted : (trace : List ℕ) (budget room : ℕ) → replay_says (uncounted net) trace budget room ≡ replay_says net trace budget room
  unfolding replay_says
  replay_says_uncounted trace budget room = rw (tests_uncounted trace room, checked_says-uncounted net trace budget)

  pub replay_gives_uncounted : (trace : List ℕ) (budget : ℕ) (out : List ℕ) → replay_gives (uncounted net) trace budget out ≡ replay_gives net trace budget out
  unfolding replay_gives
  replay_gives_uncounted trace budget out = rw (tests_uncounted trace (length out), checked_gives-uncounted net trace budget out)
