-- Replays in a net and in one that contains it: a choice in the first is one in the second, so what is found in the first is not
-- none in the second. And "none" said of a call, from what the search says of it. Assumes nothing.
use Prim.Native.Nat.{ℕ}
use mathlib.Core.Path.{refl}
use mathlib.Core.List.{List}
use mathlib.Core.Logic.{◌↔◌}
use native.Mathlib.Omega.{arith}
use lib.ListN.{length}
use Rattle.obligations.specs.declared.sequence.Binding.{Binding}
use Rattle.net.specs.Orderly.{Orderly}
use Rattle.net.specs.Contained.{Contained}
use Rattle.net.specs.declared.Net.{Net}
use Rattle.net.specs.declared.sides.Side.TheVariants.{Input, Output}
use Rattle.net.proofs.OrderlyLaws.{facts_orderly, on_side_activity}
use Rattle.search.specs.Choice.{Choice}
use Rattle.search.specs.Search.{trials_of}
use Rattle.search.specs.Replay.{replayed}
use Rattle.search.specs.Statements.{NoChoice}
use Rattle.search.proofs.Theorems.{replay-as_listed, none_said, found_said}
use Rattle.promises.specs.Replays.{SaysFound, SaysNone, ReplayNotRefused, EndsWithin}
use Rattle.promises.proofs.WithinLaws.{valid-grows}

module _ (net other : Net) (o : Orderly net) (c : Contained net other) where
  choice_grows : (trace : List ℕ) (s : List Binding) → Choice net trace s → Choice other trace s
  choice_grows trace s d = record {
    same_length = d.same_length;
    same_activities = d.same_activities;
    inputs_chosen = λ i l. c.among Input _ _ (on_side_activity net (facts_orderly net o) Input _ _ (d.inputs_chosen i l)) (d.inputs_chosen i l);
    outputs_chosen = λ i l. c.among Output _ _ (on_side_activity net (facts_orderly net o) Output _ _ (d.outputs_chosen i l)) (d.outputs_chosen i l);
  }

  pub found_not_none : (trace : List ℕ) (budget budget' : ℕ) (out out' : List ℕ) → SaysFound net trace budget out → SaysNone other trace budget' out' → ⊥
  found_not_none trace budget budget' out out' f n =
      let w = ((found_said net trace budget (length out) f.0).0 f.1).3 in
      ((none_said other trace budget' (length out') n.0).0 n.1).3 w.0 (choice_grows trace w.0 w.1) (valid-grows net other w.0 c w.2)

pub none_exactly : (net : Net) (trace : List ℕ) (budget : ℕ) (out : List ℕ) → ReplayNotRefused net trace budget out
    → SaysNone net trace budget out ↔ (EndsWithin net trace budget × NoChoice net trace)
none_exactly net trace budget out h =
    let none = (replay-as_listed net trace budget (length out)).not_refused_exactly.0 h in (
      (λ w. let q = (none_said net trace budget (length out) w.0).0 w.1 in (omega (arith, q.1, q.2), q.3)),
      (λ w. (trials_of (replayed net trace), (none_said net trace budget (length out) (trials_of (replayed net trace))).1 (none, refl, w.0, w.1))),
    )
