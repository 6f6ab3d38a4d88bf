-- The share of fitting sessions (02, (vi)): how many in a thousand, with nothing rounded away.
use Rattle.std.specs.Prelude.{ℕ, ◌*◌, ◌+◌, ◌<◌, ◌≡◌, Bool, true, false, List, Result as Answer, Ok, Err, filter, sum_by}
use Rattle.net.specs.Refusals.{refusal_number}
use Rattle.net.specs.declared.refusal.Refused.{Refused}
use Rattle.logfile.specs.Limits.{log_rows, most_sessions}
use Rattle.search.specs.Replay.{ReplaySays, says_found, says_none, says_spent, says_refused}
use Rattle.wholelog.specs.Rows.{LoggedRow}
use Rattle.wholelog.specs.declared.sharing.Figures.{Figures}
use Rattle.wholelog.specs.declared.sharing.RefusedOf.{RefusedOf}
use Rattle.wholelog.specs.declared.sharing.RefusedOf.TheVariants.{Net as OfNet, Log as OfLog}

-- ---- what the figures are

-- the sessions of rows
abbrev pub sessions_of : List LoggedRow → ℕ
sessions_of ws = sum_by (λ w. w.sessions) ws

-- the most that a log can have
abbrev pub log_sessions : ℕ
log_sessions = log_rows * most_sessions

-- a replay's answer is "found", and is "spent"
abbrev pub is_found : ReplaySays → Bool
is_found (says_found n) = true
is_found (says_none n) = false
is_found (says_spent n) = false
is_found (says_refused n p) = false

abbrev pub is_spent : ReplaySays → Bool
is_spent (says_found n) = false
is_spent (says_none n) = false
is_spent (says_spent n) = true
is_spent (says_refused n p) = false

-- the sessions of the rows found, and of those spent, where their traces' replays answer so
abbrev pub fitting_of : (List ℕ → ReplaySays) → List LoggedRow → ℕ
fitting_of answer ws = sessions_of (filter (λ w. is_found (answer w.trace)) ws)

abbrev pub spent_of : (List ℕ → ReplaySays) → List LoggedRow → ℕ
spent_of answer ws = sessions_of (filter (λ w. is_spent (answer w.trace)) ws)

-- q in a thousand of all are fitting, and r is left over
pub record InAThousand (fitting all q r : ℕ) : Type 0 where
  pub shared_out : 1000 * fitting ≡ q * all + r
  pub below_all : r < all

-- the figures of rows whose traces' replays answer so
pub record FiguresOf (answer : List ℕ → ReplaySays) (ws : List LoggedRow) (s : Figures) : Type 0 where
  pub fitting : s.fitting ≡ fitting_of answer ws
  pub spent : s.spent ≡ spent_of answer ws
  pub all : s.all ≡ sessions_of ws
  pub in_a_thousand : InAThousand s.fitting s.all s.per_thousand s.remainder

-- ---- what is said

-- of a log, in a net that has been checked: the figures, or a refusal's number and line
pub data LogSays : Type 0 where
  says_figures : Figures → LogSays
  log_refused : ℕ → ℕ → LogSays

-- by every call: a refusal of the net with its number and place, or what is said of the log
pub data ShareSays : Type 0 where
  net_refused : ℕ → ℕ → ShareSays
  says_of_log : LogSays → ShareSays

-- what the answers mean, and which refusal an error has
abbrev pub log_share_means : Answer Figures Refused → LogSays
log_share_means (Ok s) = says_figures s
log_share_means (Err r) = log_refused (refusal_number r.refusal) r.place

abbrev pub share_means : Answer Figures RefusedOf → ShareSays
share_means (Ok s) = says_of_log (says_figures s)
share_means (Err (OfNet r)) = net_refused (refusal_number r.refusal) r.place
share_means (Err (OfLog r)) = says_of_log (log_refused (refusal_number r.refusal) r.place)

abbrev pub its_refusal : RefusedOf → Refused
its_refusal (OfNet r) = r
its_refusal (OfLog r) = r
