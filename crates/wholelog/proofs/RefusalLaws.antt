-- Laws of the refusals. What is said of a whole log is what is said of the row after the last that a log may have, so the sentences of
-- reading that row list it; the share carries what the check says of the net, then what is said of the log, and then says 20.
-- Assumes nothing.
use Prim.Native.Nat.{ℕ, ◌+◌}
use mathlib.Core.Path.{◌≡◌, refl, ap, ◌∙◌}
use mathlib.Core.Logic.{◌↔◌}
use mathlib.Core.Bool.{true, false, cond}
use mathlib.Core.List.{List, [], ◌∷◌}
use native.Mathlib.Omega.{arith}
use Rattle.obligations.specs.Limits.{positions}
use Rattle.obligations.proofs.BoolLaws.{false-not-true}
use Rattle.net.specs.Refusals.{Says, accepted, refused, no_rows}
use Rattle.net.specs.Sentences.{NoneHolds, Answered, AsListed, AsListedByLine}
use Rattle.net.specs.declared.Net.{Net}
use Rattle.net.proofs.SentenceLaws.{told-map, told-ok, told-accepted, told_end, whole_link, told_listed, refused-same, accepted-not-refused}
use Rattle.walks.specs.Arcs.{arcs}
use Rattle.walks.specs.Check.{check_refusals, check_says}
use Rattle.walks.proofs.CheckLaws.{check-told}
use Rattle.logfile.specs.Limits.{log_rows}
use Rattle.logfile.specs.LogFile.{RowReading, row, end, fault, RowSays, row_refused, read_row, reading_says}
use Rattle.logfile.specs.Refusals.{LineIs, row_text}
use Rattle.logfile.proofs.Theorems.{row_listed, row_said}
use Rattle.search.specs.Replay.{checked_says}
use Rattle.wholelog.specs.Rows.{LoggedRow, no_more, row_first, AreRows}
use Rattle.wholelog.specs.Refusals.{log_refusals, LogReads, HasNoRows, no_rows_refusals, LogRefusalGiven, NoLogRefusal}
use Rattle.wholelog.specs.Share.{LogSays, says_figures, log_refused, ShareSays, net_refused, says_of_log}
use Rattle.wholelog.specs.declared.sharing.Figures.{Figures}
use Rattle.wholelog.specs.Computed.{log_says, rows_of, has_any, figures_of, checked_share, share_says}
use Rattle.wholelog.proofs.RowsLaws.{rows_exactly}
use Rattle.wholelog.proofs.AnsweredLaws.{Plain, accepted_none, answered_as, carried_then}

-- ---- a whole log

plain_reading : (x : RowReading) → Plain (reading_says x).says
plain_reading (row s t) e = absurd (false-not-true e refl)
plain_reading end e = absurd (false-not-true e refl)
plain_reading (fault n p) e = refl

row_says-same : (x : RowReading) (n p : ℕ) → (reading_says x ≡ row_refused n p) ↔ ((reading_says x).says ≡ refused n p)
row_says-same (row s t) n p = ((λ e. ap (λ (y : RowSays). y.says) e), (λ e. absurd (accepted-not-refused 1 n p e)))
row_says-same end n p = ((λ e. ap (λ (y : RowSays). y.says) e), (λ e. absurd (accepted-not-refused 0 n p e)))
row_says-same (fault m q) n p = (
  (λ e. ap (λ (y : RowSays). y.says) e),
  (λ e. let s = refused-same m n q p e in ap (λ (k : ℕ). row_refused k q) s.0 ∙ ap (row_refused n) s.1),
)

module _ (log : List ℕ) where
  pub log-plain : Plain (log_says log)
  unfolding log_says
  log-plain = plain_reading (read_row log (log_rows + 1) positions)

  pub log_listed : AsListedByLine refused (log_refusals log) (log_says log)
  unfolding log_says
  log_listed = answered_as (row_says-same (read_row log (log_rows + 1) positions)) (row_listed log (log_rows + 1) positions)

  pub log_ok-reads : ((log_says log).ok ≡ true) ↔ LogReads log
  log_ok-reads = accepted_none (log_says log) log-plain log_listed

-- ---- the net

pub net_ok-none : (net : Net) → ((check_says net).ok ≡ true) ↔ NoneHolds (check_refusals net)
net_ok-none net =
    let exactly = told-accepted (check_refusals net) (arcs net) (check-told net) in
    ((λ o. exactly.0 (told-ok (check_refusals net) (arcs net) (check-told net) o)), (λ none. ap (λ (y : Says). y.ok) (exactly.1 none)))

-- ---- the share's answers

-- what is refused, and where; 0 for what isn't
abbrev refusal_in : ShareSays → ℕ × ℕ
refusal_in (net_refused n p) = (n, p)
refusal_in (says_of_log x) = (0, 0)

abbrev refusal_of_log : LogSays → ℕ × ℕ
refusal_of_log (says_figures s) = (0, 0)
refusal_of_log (log_refused n p) = (n, p)

net_refused-same : (n m p q : ℕ) → net_refused n p ≡ net_refused m q → (n ≡ m) × (p ≡ q)
net_refused-same n m p q e = let z = ap refusal_in e in (ap (λ (x : ℕ × ℕ). x.0) z, ap (λ (x : ℕ × ℕ). x.1) z)

log_refused-same : (n m p q : ℕ) → log_refused n p ≡ log_refused m q → (n ≡ m) × (p ≡ q)
log_refused-same n m p q e = let z = ap refusal_of_log e in (ap (λ (x : ℕ × ℕ). x.0) z, ap (λ (x : ℕ × ℕ). x.1) z)

-- 0 for what isn't refused, and 1 for a refusal
abbrev is_refused_net : ShareSays → ℕ
is_refused_net (net_refused n p) = 1
is_refused_net (says_of_log x) = 0

abbrev is_refused_log : LogSays → ℕ
is_refused_log (says_figures s) = 0
is_refused_log (log_refused n p) = 1

pub figures-not_refused : (s : Figures) (n p : ℕ) → says_figures s ≡ log_refused n p → ⊥
figures-not_refused s n p e = let z : ◌≡◌ {A = ℕ} 0 1 = ap is_refused_log e in omega arith

pub of_log-not_net : (x : LogSays) (n p : ℕ) → says_of_log x ≡ net_refused n p → ⊥
of_log-not_net x n p e = let z : ◌≡◌ {A = ℕ} 0 1 = ap is_refused_net e in omega arith

module _ (net : Net) (log : List ℕ) (budget : ℕ) where
  -- what is said of the log, or the net's refusal
  abbrev said_after : Says → ShareSays
  said_after c = cond c.ok (says_of_log (checked_share net log budget)) (net_refused c.refusal c.place)

  pub share_net-listed : AsListed net_refused (check_refusals net) (share_says net log budget)
  unfolding share_says
  share_net-listed =
      told_listed net_refused net_refused-same (says_of_log (checked_share net log budget)) (of_log-not_net (checked_share net log budget)) (check_refusals net) refl
      (told-map refused net_refused said_after (λ n p. refl) (check_refusals net) (accepted (arcs net)) (check_says net) (check-told net))

  pub share_checked : (check_says net).ok ≡ true → share_says net log budget ≡ says_of_log (checked_share net log budget)
  unfolding share_says
  share_checked o = rw o refl

  pub share_unpassed : (n p : ℕ) → refused n p ≡ check_says net → net_refused n p ≡ share_says net log budget
  unfolding share_says
  share_unpassed n p e = rw (← e) refl

-- ---- 20

module _ (net : Net) (log : List ℕ) (budget : ℕ) where
  abbrev rows : List LoggedRow
  rows = rows_of log

  abbrev figures : LogSays
  figures = says_figures (figures_of (λ t. checked_says net t budget) rows)

  abbrev after_log : LogSays
  after_log = cond (has_any rows) figures (log_refused no_rows 0)

  -- where the log reads, its second line is its first row, and where there is none it has no rows
  rows_listed : LogReads log → AsListed log_refused (no_rows_refusals log) after_log
  rows_listed r =
      told_listed log_refused log_refused-same figures (figures-not_refused _) (no_rows_refusals log) refl
      (whole_link log_refused figures no_rows (HasNoRows log) [] (has_any rows) figures none some (λ _. told_end log_refused figures))
    where
      are : AreRows log rows
      are = (rows_exactly log rows).1 ((log_ok-reads log).1 r, refl)

      line : (ws : List LoggedRow) → AreRows log ws → has_any ws ≡ true → (l : List ℕ) × LineIs log 2 l
      line [] a e = absurd (false-not-true refl e)
      line (w ∷ ws) (row_first s t e more) q = (row_text s t, (((row_said log 1 positions).0 s t).0 e).1)

      no_line : (ws : List LoggedRow) → AreRows log ws → has_any ws ≡ false → HasNoRows log
      no_line [] (no_more e) q = ((row_said log 1 positions).1.0 e).1
      no_line (w ∷ ws) a q = absurd (false-not-true q refl)

      none : has_any rows ≡ true → HasNoRows log → ⊥
      none e h = let l = line rows are e in h l.0 l.1

      some : has_any rows ≡ false → HasNoRows log
      some e = no_line rows are e

  pub share_log-listed : Answered log_refused (LogRefusalGiven log) (NoLogRefusal log) (checked_share net log budget)
  unfolding checked_share
  share_log-listed =
      carried_then log_refused log_refused-same (log_says log) (log-plain log) after_log (log_listed log) (λ o. rows_listed ((log_ok-reads log).0 o))
