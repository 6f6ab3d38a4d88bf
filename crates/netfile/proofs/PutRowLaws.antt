-- Laws of putting a row's set: what a put on one kind of side leaves is what put gives, and an orderly net stays orderly and one
-- with counts 0 stays so. Assumes nothing.
use Prim.Native.Nat.{◌<◌}
use mathlib.Core.Path.{◌≡◌, sym, ap, ◌∙◌}
use mathlib.Core.Bool.{true}
use Rattle.std.specs.Prelude.{Result, Ok, Err}
use Rattle.obligations.specs.Limits.{activities}
use Rattle.net.specs.Refusals.{Says}
use Rattle.net.specs.Sides.{sides_of, empty_at, uncounted}
use Rattle.net.specs.Orderly.{orderly}
use Rattle.net.specs.Put.{put_says, put_gives, with_sides}
use Rattle.net.specs.Inner.{placed_means, SideDone}
use Rattle.net.specs.declared.Net.{Net}
use Rattle.net.specs.declared.sides.Sides.{Sides}
use Rattle.net.specs.declared.putting.Placed.{Placed}
use Rattle.net.specs.declared.refusal.Refusal.{Refusal}
use Rattle.net.proofs.OrderlyLaws.{orderly_sides}
use Rattle.net.proofs.PutLaws.{put_says_side, put_gives_sides, put_orderly}
use Rattle.net.proofs.UncountedLaws.{blank_done, no_counts, put_uncounted}
use Rattle.netfile.specs.NetFile.{row_gives}
use Rattle.netfile.specs.Steps.{PutRow}
use Rattle.netfile.specs.declared.line.SetRow.{SetRow}

module _ (net : Net) (row : SetRow) (o : orderly net ≡ true) (u : uncounted net ≡ net) (h : row.activity < activities) (r : Result Placed Refusal) (sides : Sides)
    (d : SideDone (sides_of net row.side) (empty_at net row.side) row.activity row.set r sides) where
  said : placed_means r ≡ put_says net row.side row.activity row.set
  said = d.said.says ∙ sym (put_says_side net row.side row.activity row.set o h)

  given : with_sides net row.side sides ≡ put_gives net row.side row.activity row.set
  given =
      let done = blank_done (sides_of net row.side) (empty_at net row.side) row.activity row.set (orderly_sides net o row.side) h (no_counts net u row.side) r sides d in
      rw done.sides_are (sym (put_gives_sides net row.side row.activity row.set o h))

  pub row_put : (p : Placed) → r ≡ Ok p → PutRow net (Ok row) (Ok tt) (with_sides net row.side sides)
  row_put p q = record { put = ap (λ (s : Says). s.ok) (ap placed_means (sym q) ∙ said); refusal = tt; gives = given }

  pub row_refused : (n : Refusal) → r ≡ Err n → PutRow net (Ok row) (Err n) (with_sides net row.side sides)
  row_refused n q = let f = ap placed_means (sym q) ∙ said in record { put = ap (λ (s : Says). s.ok) f; refusal = ap (λ (s : Says). s.refusal) f; gives = given }

-- a row leaves the counts 0
pub row-uncounted : (net : Net) (row : Result SetRow Refusal) → orderly net ≡ true → uncounted net ≡ net → uncounted (row_gives net row) ≡ row_gives net row
row-uncounted net (Ok r) o e = put_uncounted net r.side r.activity r.set o e
row-uncounted net (Err n) o e = e

pub row-orderly : (net : Net) (row : Result SetRow Refusal) → orderly net ≡ true → orderly (row_gives net row) ≡ true
row-orderly net (Ok r) o = put_orderly net r.side r.activity r.set o
row-orderly net (Err n) o = o
