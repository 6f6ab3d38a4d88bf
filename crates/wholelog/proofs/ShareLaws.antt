-- Laws of the share: the figures that are computed are those of the rows, and no others are. Assumes nothing.
use Prim.Native.Nat.{ℕ, ◌*◌, ◌/◌, ◌%◌, ◌≤◌, ◌<◌}
use mathlib.Core.Path.{◌≡◌, refl, sym, ap, ◌∙◌}
use mathlib.Core.Bool.{cond}
use mathlib.Core.List.{List, [], ◌∷◌}
use native.Mathlib.Omega.{arith}
use native.Mathlib.Nat.{mod-lt}
use mathlib.Core.Logic.{⊎_elim}
use Rattle.std.specs.Prelude.{All}
use Rattle.std.proofs.lemmas.Nat.{div-add-mod', same_from_place, mul-le}
use Rattle.obligations.proofs.SetLaws.{lt_or_le}
use Rattle.net.specs.Refusals.{accepted, refused, no_rows}
use Rattle.net.specs.declared.Net.{Net}
use Rattle.search.specs.Replay.{ReplaySays, checked_says}
use Rattle.wholelog.specs.Rows.{LoggedRow}
use Rattle.wholelog.specs.Share.{sessions_of, InAThousand, FiguresOf, says_figures, log_refused}
use Rattle.wholelog.specs.Computed.{log_says, rows_of, has_any, share_out, figures_of, checked_share}
use Rattle.wholelog.specs.Sums.{sums_of}
use Rattle.wholelog.specs.Statements.{ThousandOnce}
use Rattle.wholelog.specs.declared.sharing.Figures.{Figures}
use Rattle.wholelog.specs.declared.sharing.Sums.{Sums}
use Rattle.wholelog.proofs.SumLaws.{sums-same, sessions_some, rows_some}
use Rattle.wholelog.proofs.RowsLaws.{RowWithin, found_within}

-- a number in a thousand and a remainder are determined
pub thousand_once : ThousandOnce
thousand_once fitting all q r p o a b = same_from_place q r p o all a.below_all b.below_all (sym a.shared_out ∙ b.shared_out)

divided : (fitting all : ℕ) → 0 < all → InAThousand fitting all (1000 * fitting / all) (1000 * fitting % all)
divided fitting all h = record { shared_out = sym (div-add-mod' (1000 * fitting) all); below_all = mod-lt (1000 * fitting) h }

module _ (answer : List ℕ → ReplaySays) (ws : List LoggedRow) where
  pub figures_are : 0 < sessions_of ws → FiguresOf answer ws (figures_of answer ws)
  unfolding figures_of share_out
  figures_are h = record { fitting = refl; spent = refl; all = refl; in_a_thousand = divided _ (sessions_of ws) h }

  -- two figures of the same rows are equal
  pub figures_once : (s t : Figures) → FiguresOf answer ws s → FiguresOf answer ws t → s ≡ t
  figures_once s t a b =
      let f : s.fitting ≡ t.fitting = a.fitting ∙ sym b.fitting in
      let p : s.spent ≡ t.spent = a.spent ∙ sym b.spent in
      let l : s.all ≡ t.all = a.all ∙ sym b.all in
      let k : InAThousand s.fitting s.all t.per_thousand t.remainder = rw (f, l) b.in_a_thousand in
      let u = thousand_once s.fitting s.all s.per_thousand s.remainder t.per_thousand t.remainder a.in_a_thousand k in
      λ j. record { per_thousand = u.0 j; remainder = u.1 j; fitting = f j; spent = p j; all = l j }

  -- shared out of the sums
  shared_out-sums : share_out (sums_of answer ws).fitting (sums_of answer ws).spent (sums_of answer ws).all ≡ figures_of answer ws
  unfolding figures_of sums_of
  shared_out-sums = refl

-- answers that are the same of every row's trace have the same figures
pub figures_same : (f g : List ℕ → ReplaySays) (ws : List LoggedRow) → All (λ w. f w.trace ≡ g w.trace) ws → figures_of f ws ≡ figures_of g ws
figures_same f g ws h =
    sym (shared_out-sums f ws) ∙ ap (λ (s : Sums). share_out s.fitting s.spent s.all) (sums-same f g ws h) ∙ shared_out-sums g ws

-- no more than all in a thousand
pub in_a_thousand-most : (fitting all q r : ℕ) → fitting ≤ all → InAThousand fitting all q r → q ≤ 1000
in_a_thousand-most fitting all q r h w = ⊎_elim (λ m. absurd (over m)) (λ m. m) (lt_or_le 1000 q)
  where
    over : 1000 < q → ⊥
    over m = omega (arith, mul-le 1001 all q all (omega arith) (omega arith), w.shared_out, w.below_all, h)

-- ---- the tests of a log, one after the other

module _ (net : Net) (log : List ℕ) (budget : ℕ) where
  abbrev checked : List ℕ → ReplaySays
  checked t = checked_says net t budget

  pub faulty_share : (n p : ℕ) → refused n p ≡ log_says log → log_refused n p ≡ checked_share net log budget
  unfolding checked_share
  faulty_share n p e = rw (← e) refl

  module _ (e : accepted 0 ≡ log_says log) where
    pub share-no_rows : (sums_of checked (rows_of log)).all ≡ 0 → log_refused no_rows 0 ≡ checked_share net log budget
    unfolding checked_share sums_of
    share-no_rows z = rw (← e) (go (rows_of log) (found_within log).0 z)
      where
        go : (ws : List LoggedRow) → All RowWithin ws → sessions_of ws ≡ 0 → log_refused no_rows 0 ≡ cond (has_any ws) (says_figures (figures_of checked (rows_of log))) (log_refused no_rows 0)
        go [] h q = refl
        go (w ∷ ws) h q = absurd (omega (arith, q, sessions_some (w ∷ ws) h refl))

    pub share-figures : (s : Sums) → s ≡ sums_of checked (rows_of log) → (s.all ≡ 0 → ⊥) → says_figures (share_out s.fitting s.spent s.all) ≡ checked_share net log budget
    unfolding checked_share sums_of
    share-figures s q f =
        let some : 0 < s.all = ⊎_elim (λ l. l) (λ l. absurd (f (omega arith))) (lt_or_le 0 s.all) in
        rw (← e, rows_some (rows_of log) (rw (ap (λ (x : Sums). x.all) q) at some))
        (ap (λ (x : Sums). says_figures (share_out x.fitting x.spent x.all)) q ∙ ap says_figures (shared_out-sums checked (rows_of log)))
