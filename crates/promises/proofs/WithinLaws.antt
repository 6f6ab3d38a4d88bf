-- A net grown from a fresh one by sequences is contained in an orderly net of the same start and end exactly when each of them is
-- valid there, since all else that it holds are the two empty sets, which every such net has. Assumes nothing.
use Prim.Native.Nat.{ℕ, ◌<◌}
use mathlib.Core.Path.{◌≡◌, sym, subst, ◌∙◌}
use mathlib.Core.Bool.{true}
use mathlib.Core.List.{List, Memᴰ}
use mathlib.Core.Logic.{⊎_elim}
use Rattle.obligations.specs.Limits.{activities}
use Rattle.obligations.specs.Sequence.{at}
use Rattle.obligations.specs.declared.sequence.Binding.{Binding}
use Rattle.net.specs.Sides.{OnSide}
use Rattle.net.specs.Orderly.{ends_ok, Orderly}
use Rattle.net.specs.Fresh.{fresh_net}
use Rattle.net.specs.Contained.{Contained}
use Rattle.net.specs.Valid.{Valid}
use Rattle.net.specs.declared.Net.{Net}
use Rattle.net.specs.declared.sides.Side.{Side}
use Rattle.net.specs.declared.sides.Side.TheVariants.{Input, Output}
use Rattle.net.proofs.ListLaws.{one_listed}
use Rattle.net.proofs.FreshLaws.{fresh_on_side}
use Rattle.net.proofs.WithinLaws.{same_empty}
use Rattle.sequences.specs.Gain.{SetOf, set_for}
use Rattle.sequences.proofs.JoinLaws.{formed_as}
use Rattle.promises.proofs.GrownLaws.{Grown, grown_set}

-- the sets of a valid sequence are on their sides
set-on_side : (net : Net) (side : Side) (a m : ℕ) (s : List Binding) → Valid net s → SetOf side s a m → OnSide net side a m
set-on_side net side a m s v f =
    subst (λ (b : ℕ). OnSide net side b m) f.activity_is (subst (OnSide net side (at s f.position).activity) f.set_is (here side))
  where
    here : (side : Side) → OnSide net side (at s f.position).activity (set_for side (at s f.position))
    here Input = v.inputs_on_side f.position f.inside
    here Output = v.outputs_on_side f.position f.inside

-- what is valid in a net is valid in each that it is contained in
pub valid-grows : (net other : Net) (s : List Binding) → Contained net other → Valid net s → Valid other s
valid-grows net other s c v = record {
  well_formed = formed_as net.start net.end other.start other.end c.same_start c.same_end v.well_formed;
  inputs_on_side = λ i l. c.among Input _ _ (v.well_formed.activities_only i l) (v.inputs_on_side i l);
  outputs_on_side = λ i l. c.among Output _ _ (v.well_formed.activities_only i l) (v.outputs_on_side i l);
}

module _ (start end : ℕ) (h : ends_ok start end ≡ true) (after : Net) (ss : List (List Binding)) (g : Grown (fresh_net start end) after ss)
    (other : Net) (o : Orderly other) (es : other.start ≡ (fresh_net start end).start) (ee : other.end ≡ (fresh_net start end).end) where
  -- the two empty sets are in every orderly net of the same start and end
  fresh_in : (side : Side) (a m : ℕ) → a < activities → OnSide (fresh_net start end) side a m → OnSide other side a m
  fresh_in side a m l i =
      let f = (fresh_on_side start end h side a m).0 i in
      rw ((o.sides side a l).just_empty (f.0 ∙ same_empty (fresh_net start end) other side (sym es) (sym ee)), f.1) (one_listed 0)

  pub all_valid_contained : ((s : List Binding) → Memᴰ s ss → Valid other s) → Contained after other
  all_valid_contained v = record {
    same_start = g.gains.same_start ∙ sym es;
    same_end = g.gains.same_end ∙ sym ee;
    among = λ side a m l i. ⊎_elim (fresh_in side a m l) (λ f. set-on_side other side a m f.sequence (v f.sequence f.among) f.set_of) (grown_set g side a m i);
  }
