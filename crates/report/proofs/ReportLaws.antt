-- Laws of the report, case by case in the order of the tests, and its length. Assumes nothing.
use Prim.Native.Nat.{ℕ, ◌≤◌, ◌<◌}
use mathlib.Core.Path.{◌≡◌, refl, ap}
use mathlib.Core.Bool.{Bool, true, false, cond}
use mathlib.Core.List.{List}
use native.Mathlib.Omega.{arith}
use borrow.Author.Tests.{le-leb, lt-leb}
use lib.Dec.{leb}
use lib.ListN.{length}
use Rattle.obligations.proofs.BoolLaws.{false-not-true}
use Rattle.text.specs.Inner.{Wrote}
use Rattle.net.specs.Refusals.{accepted, refused, outside_limits}
use Rattle.net.specs.Orderly.{orderly}
use Rattle.net.specs.declared.Net.{Net}
use Rattle.net.proofs.FreshLaws.{fresh_orderly, zero_one}
use Rattle.walks.specs.Check.{check_says}
use Rattle.netfile.specs.NetFile.{net_means, refused_at, read_net}
use Rattle.netfile.proofs.Theorems.{read-orderly}
use Rattle.search.specs.Replay.{checked_says}
use Rattle.wholelog.specs.Computed.{log_says, rows_of, checked_share}
use Rattle.wholelog.specs.Share.{LogSays, says_figures, log_refused}
use Rattle.wholelog.proofs.RowsLaws.{found_within}
use Rattle.std.specs.Prelude.{Result, Ok, Err, is_err, ⊤}
use Rattle.net.specs.declared.refusal.Refused.{Refused}
use Rattle.report.specs.declared.ReportKind.{ReportKind}
use Rattle.report.specs.declared.ReportKind.TheVariants.{Replays, Share}
use Rattle.report.specs.RowLines.{table_text}
use Rattle.report.specs.Report.{file_bytes, row_budget, report_room, net_word, log_word, refusal_text, replays_text, said_text, share_text, kind_text, checked_text, read_checked, report_text}
use Rattle.report.proofs.TextLaws.{refusal_short, trials_most, table_short, share_short}

-- ---- a log

module _ (net : Net) (log : List ℕ) where
  abbrev table : List ℕ
  table = table_text (λ t. checked_says net t row_budget) (rows_of log)

  pub rows-faulty : (n p : ℕ) → refused n p ≡ log_says log → replays_text net log ≡ refusal_text log_word n p
  unfolding replays_text
  rows-faulty n p e = rw (← e) refl

  pub rows-read : (v : ℕ) → accepted v ≡ log_says log → replays_text net log ≡ table
  unfolding replays_text
  rows-read v e = rw (← e) refl

  pub table_with_room : length table ≤ report_room
  table_with_room =
      let h = found_within log in
      omega (arith, table_short (λ t. checked_says net t row_budget) (λ t. trials_most net t row_budget) (rows_of log) h.0 h.1)

  rows_short : length (replays_text net log) ≤ report_room
  unfolding replays_text
  rows_short = go (log_says log).ok
    where
      go : (b : Bool) → length (cond b table (refusal_text log_word (log_says log).refusal (log_says log).place)) ≤ report_room
      go true = table_with_room
      go false = omega (arith, refusal_short log_word (log_says log).refusal (log_says log).place)

  pub share_is-said : (x : LogSays) → x ≡ checked_share net log row_budget → said_text x ≡ share_text net log
  unfolding share_text
  share_is-said x e = ap said_text e

  share_with_room : length (share_text net log) ≤ report_room
  unfolding share_text
  share_with_room = go (checked_share net log row_budget)
    where
      go : (x : LogSays) → length (said_text x) ≤ report_room
      go (says_figures s) = omega (arith, share_short s)
      go (log_refused n p) = omega (arith, refusal_short log_word n p)

  kind_short : (kind : ReportKind) → length (kind_text kind net log) ≤ report_room
  kind_short Replays = rows_short
  kind_short Share = share_with_room

module _ (kind : ReportKind) (net : Net) (log : List ℕ) where
  pub log_long : file_bytes < length log → checked_text kind net log ≡ refusal_text log_word outside_limits 0
  unfolding checked_text
  log_long h = rw (lt-leb (length log) file_bytes h) refl

  pub log_within : length log ≤ file_bytes → checked_text kind net log ≡ kind_text kind net log
  unfolding checked_text
  log_within h = rw (le-leb (length log) file_bytes h) refl

  pub log_short : length (checked_text kind net log) ≤ report_room
  unfolding checked_text
  log_short = go (leb (length log) file_bytes)
    where
      go : (a : Bool) → length (cond a (kind_text kind net log) (refusal_text log_word outside_limits 0)) ≤ report_room
      go true = kind_short net log kind
      go false = omega (arith, refusal_short log_word outside_limits 0)

-- ---- the net

-- what was answered of a net
pub answer_ok : (a : Result ⊤ Refused) → is_err a ≡ false → (net_means a).ok ≡ true
answer_ok (Ok v) h = refl
answer_ok (Err f) h = absurd (false-not-true h refl)

pub answer_err : (a : Result ⊤ Refused) → is_err a ≡ true → (f : Refused) × (a ≡ Err f)
answer_err (Ok v) h = absurd (false-not-true refl h)
answer_err (Err f) h = (f, refl)

module _ (text : List ℕ) where
  pub checked_long : file_bytes < length text → read_checked text ≡ refused_at outside_limits 0
  unfolding read_checked
  checked_long h = rw (lt-leb (length text) file_bytes h) refl

  module _ (h : length text ≤ file_bytes) where
    pub checked_unread : (n p : ℕ) → (read_net text).says ≡ refused n p → read_checked text ≡ refused_at n p
    unfolding read_checked
    checked_unread n p e = rw (le-leb (length text) file_bytes h, e) refl

    module _ (r : (read_net text).says.ok ≡ true) where
      pub checked_refused : (n p : ℕ) → check_says (read_net text).net ≡ refused n p → read_checked text ≡ refused_at n 0
      unfolding read_checked
      checked_refused n p e = rw (le-leb (length text) file_bytes h, r, e) refl

      pub checked_passed : (check_says (read_net text).net).ok ≡ true → read_checked text ≡ read_net text
      unfolding read_checked
      checked_passed e = rw (le-leb (length text) file_bytes h, r, e) refl

pub checked_orderly : (text : List ℕ) → orderly (read_checked text).net ≡ true
unfolding read_checked
checked_orderly text = go (leb (length text) file_bytes) (read_net text).says.ok (check_says (read_net text).net).ok
  where
    go : (a b c : Bool)
        → orderly (cond a (cond b (cond c (read_net text) (refused_at (check_says (read_net text).net).refusal 0)) (refused_at (read_net text).says.refusal (read_net text).says.place)) (refused_at outside_limits 0)).net ≡ true
    go true true true = read-orderly text
    go true true false = fresh_orderly 0 1 zero_one
    go true false c = fresh_orderly 0 1 zero_one
    go false b c = fresh_orderly 0 1 zero_one

-- ---- both files

module _ (kind : ReportKind) (net log : List ℕ) where
  pub report_net-refused : (n p : ℕ) → (read_checked net).says ≡ refused n p → report_text kind net log ≡ refusal_text net_word n p
  unfolding report_text
  report_net-refused n p e = rw e refl

  pub report_net-checked : (read_checked net).says.ok ≡ true → report_text kind net log ≡ checked_text kind (read_checked net).net log
  unfolding report_text
  report_net-checked e = rw e refl

  -- every report has room in a buffer of 32,768 bytes
  pub report_short : length (report_text kind net log) ≤ report_room
  unfolding report_text
  report_short = go (read_checked net).says.ok
    where
      go : (a : Bool) → length (cond a (checked_text kind (read_checked net).net log) (refusal_text net_word (read_checked net).says.refusal (read_checked net).says.place)) ≤ report_room
      go true = log_short kind (read_checked net).net log
      go false = omega (arith, refusal_short net_word (read_checked net).says.refusal (read_checked net).says.place)

-- what was written as the report of a log is no longer than the room
pub log_wrote_short : (kind : ReportKind) (net : Net) (log buf buf' : List ℕ) (r : ℕ) → Wrote buf 0 (checked_text kind net log) buf' r → r ≤ report_room
log_wrote_short kind net log buf buf' r w = omega (arith, w.next, log_short kind net log)
