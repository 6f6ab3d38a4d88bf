-- The statements of specs/Statements.antt. The rows are within the limits, so in a net that passes the call of replay refuses none of
-- them and answers what is answered in a net that has been checked; and the figures that are computed are those of the rows. Assumes nothing.
use Prim.Native.Nat.{ℕ, ◌+◌, ◌*◌, ◌≤◌}
use mathlib.Core.Path.{◌≡◌, refl, sym, ap, subst, ◌∙◌}
use mathlib.Core.Logic.{◌↔◌}
use mathlib.Core.Bool.{Bool, true, false, cond}
use mathlib.Core.List.{List}
use native.Mathlib.Omega.{arith}
use lib.ListN.{length, get_or, replicate, length-replicate}
use Rattle.obligations.specs.Limits.{positions}
use Rattle.net.specs.Refusals.{no_rows}
use Rattle.net.specs.Sides.{uncounted}
use Rattle.net.specs.Orderly.{orderly}
use Rattle.net.proofs.UncountedLaws.{passes_over}
use Rattle.walks.proofs.UncountedLaws.{check_says-uncounted}
use Rattle.search.proofs.UncountedLaws.{checked_says-uncounted}
use Rattle.net.specs.Sentences.{NoneHolds}
use Rattle.net.specs.declared.Net.{Net}
use Rattle.walks.specs.Check.{check_refusals}
use Rattle.walks.proofs.Theorems.{none_holds-passes}
use Rattle.search.specs.Replay.{ReplaySays, checked_says, replay_says}
use Rattle.search.proofs.Theorems.{none_holds_replayable, unrefused_call}
use Rattle.wholelog.specs.Rows.{LoggedRow}
use Rattle.wholelog.specs.Share.{FiguresOf, log_sessions, LogSays, says_figures, log_refused, ShareSays, net_refused, says_of_log}
use Rattle.wholelog.specs.Computed.{log_says, rows_of, has_any, figures_of, checked_share, share_says}
use Rattle.wholelog.specs.Statements.{LogListed, RowsFound, RowsCalled, ShareNetListed, ShareOfLog, ShareLogListed, ShareSaid, ThousandOnce, ShareBounded, SharePassesOver}
use Rattle.wholelog.specs.declared.sharing.Figures.{Figures}
use Rattle.wholelog.proofs.RowsLaws.{more_room, found_within, rows_exactly}
use Rattle.wholelog.proofs.SumLaws.{sums-apart, sessions-most, sessions_some, rows_some}
use Rattle.wholelog.proofs.ShareLaws.{figures_are, figures_once, figures_same, in_a_thousand-most}
use Rattle.wholelog.proofs.ShareLaws as shares
use Rattle.wholelog.proofs.RefusalLaws as refusals

pub log_listed : LogListed
log_listed = refusals.log_listed

pub rows_found : RowsFound
rows_found log ws = (
  (λ a. let w = (rows_exactly log ws).0 a in ((refusals.log_ok-reads log).0 w.0, w.1)),
  (λ w. (rows_exactly log ws).1 ((refusals.log_ok-reads log).1 w.0, w.1)),
)

pub share_net-listed : ShareNetListed
share_net-listed = refusals.share_net-listed

pub share_of-log : ShareOfLog
share_of-log net log budget none = refusals.share_checked net log budget ((refusals.net_ok-none net).1 none)

pub share_log-listed : ShareLogListed
share_log-listed = refusals.share_log-listed

pub thousand_once : ThousandOnce
thousand_once = shares.thousand_once

-- each row is answered alike by the call
pub rows_called : RowsCalled
rows_called net log budget room none h k d lt =
    let w = get_or (rows_of log) k d in
    let out : List ℕ = replicate room 0 in
    let long : length out ≡ room = length-replicate {A = ℕ} room 0 in
    let fits = more_room w.trace (length out) ((found_within log).0 k d lt).with_room (omega (arith, long, h)) in
    let replayable = (none_holds_replayable net w.trace (length out)).1 (record { net_passes = (none_holds-passes net).0 none; trace_with_room = fits }) in
    ap (replay_says net w.trace budget) (sym long) ∙ (unrefused_call net w.trace budget out replayable).0

module _ (net : Net) (log : List ℕ) (budget : ℕ) where
  abbrev checked : List ℕ → ReplaySays
  checked t = checked_says net t budget

  -- what has been said if figures are said
  record Said (s : Figures) : Type 0 where
    log_ok : (log_says log).ok ≡ true
    some_rows : has_any (rows_of log) ≡ true
    figures : figures_of checked (rows_of log) ≡ s

  abbrev figures_in : Figures → LogSays → Figures
  figures_in s (says_figures t) = t
  figures_in s (log_refused n p) = s

  said : (s : Figures) → checked_share net log budget ≡ says_figures s → Said s
  unfolding checked_share
  said s e = go (log_says log).ok (has_any (rows_of log)) refl refl e
    where
      go : (a b : Bool) → (log_says log).ok ≡ a → has_any (rows_of log) ≡ b
          → cond a (cond b (says_figures (figures_of checked (rows_of log))) (log_refused no_rows 0)) (log_refused (log_says log).refusal (log_says log).place) ≡ says_figures s
          → Said s
      go true true x y q = record { log_ok = x; some_rows = y; figures = ap (figures_in s) q }
      go true false x y q = absurd (refusals.figures-not_refused s no_rows 0 (sym q))
      go false b x y q = absurd (refusals.figures-not_refused s (log_says log).refusal (log_says log).place (sym q))

  said_back : (s : Figures) → Said s → checked_share net log budget ≡ says_figures s
  unfolding checked_share
  said_back s w = rw (w.log_ok, w.some_rows) (ap says_figures w.figures)

  abbrev log_in : LogSays → ShareSays → LogSays
  log_in x (net_refused n p) = x
  log_in x (says_of_log y) = y

  -- what is said of the log is said exactly in a net of which no refusal holds
  pub said_of-log : (x : LogSays) → (share_says net log budget ≡ says_of_log x) ↔ (NoneHolds (check_refusals net) × (checked_share net log budget ≡ x))
  said_of-log x = (
    (λ e.
        let none = (refusals.share_net-listed net log budget).not_refused_exactly.0 (λ n p q. refusals.of_log-not_net x n p (sym e ∙ q)) in
        (none, ap (log_in x) (sym (share_of-log net log budget none) ∙ e))),
    (λ w. share_of-log net log budget w.0 ∙ ap says_of_log w.1),
  )

pub share_said : ShareSaid
share_said net log budget s = (
  (λ e.
      let p = (said_of-log net log budget (says_figures s)).0 e in
      let w = said net log budget s p.1 in
      let of = figures_are answer (rows_of log) (sessions_some (rows_of log) (found_within log).0 w.some_rows) in
      (p.0, rows_of log, (rows_exactly log (rows_of log)).1 (w.log_ok, refl), subst (FiguresOf answer (rows_of log)) (same p.0 ∙ w.figures) of)),
  (λ w.
      let r = (rows_exactly log w.1).0 w.2 in
      let f : FiguresOf answer (rows_of log) s = subst (λ (vs : List LoggedRow). FiguresOf answer vs s) r.1 w.3 in
      let some = rows_some (rows_of log) (omega (arith, f.in_a_thousand.below_all, f.all)) in
      let of = figures_are answer (rows_of log) (sessions_some (rows_of log) (found_within log).0 some) in
      let figures = sym (same w.0) ∙ figures_once answer (rows_of log) _ s of f in
      (said_of-log net log budget (says_figures s)).1 (w.0, said_back net log budget s (record { log_ok = r.0; some_rows = some; figures = figures }))),
)
  where
    answer : List ℕ → ReplaySays
    answer t = replay_says net t budget (3 * positions)

    same : NoneHolds (check_refusals net) → figures_of answer (rows_of log) ≡ figures_of (λ t. checked_says net t budget) (rows_of log)
    same none = figures_same answer (λ t. checked_says net t budget) (rows_of log) (rows_called net log budget (3 * positions) none (omega arith))

pub share_bounded : ShareBounded
share_bounded net log budget s e =
    let answer : List ℕ → ReplaySays = λ t. replay_says net t budget (3 * positions) in
    let w = (share_said net log budget s).0 e in
    let ws = rows_of log in
    let r = (rows_exactly log w.1).0 w.2 in
    let f : FiguresOf answer ws s = subst (λ (vs : List LoggedRow). FiguresOf answer vs s) r.1 w.3 in
    let apart : s.fitting + s.spent ≤ s.all = rw (f.fitting, f.spent, f.all) (sums-apart answer ws) in
    let few : s.all ≤ log_sessions = rw f.all (sessions-most ws (found_within log).0 (found_within log).1) in
    record {
      apart = apart;
      few = few;
      nothing_wraps = omega (arith, apart, few);
      within_thousand = in_a_thousand-most s.fitting s.all s.per_thousand s.remainder (omega (arith, apart)) f.in_a_thousand;
    }

share_uncounted : (net : Net) (log : List ℕ) (budget : ℕ) → orderly net ≡ true → share_says (uncounted net) log budget ≡ share_says net log budget
unfolding share_says checked_share
share_uncounted net log budget o =
    rw (check_says-uncounted net o, figures_same (checked (uncounted net) log budget) (checked net log budget) (rows_of log) (λ k d lt. checked_says-uncounted net (get_or (rows_of log) k d).trace budget)) refl

pub share-passes_over : SharePassesOver
share-passes_over net other log budget o q e = passes_over (λ n. share_says n log budget) (λ n. share_uncounted n log budget) net other o q e
