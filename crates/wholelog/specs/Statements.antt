-- What is proved of the definitions. The proofs are in proofs/Theorems.antt.
use Rattle.std.specs.Prelude.{All, ℕ, ◌<◌, ◌^◌, ◌+◌, ◌*◌, ◌≤◌, ◌≡◌, ◌↔◌, List}
use Rattle.obligations.specs.Limits.{positions}
use Rattle.net.specs.Refusals.{refused}
use Rattle.net.specs.Sentences.{NoneHolds, Answered, AsListed, AsListedByLine}
use Rattle.net.specs.Sides.{SameButCounts}
use Rattle.net.specs.Orderly.{Orderly}
use Rattle.net.specs.declared.Net.{Net}
use Rattle.walks.specs.Check.{check_refusals}
use Rattle.search.specs.Replay.{checked_says, replay_says}
use Rattle.wholelog.specs.Rows.{LoggedRow, AreRows}
use Rattle.wholelog.specs.Refusals.{log_refusals, LogReads, LogRefusalGiven, NoLogRefusal}
use Rattle.wholelog.specs.Share.{InAThousand, FiguresOf, log_sessions, says_figures, log_refused, net_refused, says_of_log}
use Rattle.wholelog.specs.Computed.{log_says, rows_of, checked_share, share_says}
use Rattle.wholelog.specs.declared.sharing.Figures.{Figures}

-- ---- a whole log

-- reading it is refused exactly as its sentences are listed, by line, and else not
abbrev pub LogListed : Type 0
LogListed = (log : List ℕ) → AsListedByLine refused (log_refusals log) (log_says log)

-- there is a list of a log's rows, which may be empty, exactly if reading it isn't refused, and then it is the one computed
abbrev pub RowsFound : Type 0
RowsFound = (log : List ℕ) (ws : List LoggedRow) → AreRows log ws ↔ (LogReads log × (ws ≡ rows_of log))

-- in a net of which no refusal holds the call of replay answers for each row's trace what is answered in a net that has been checked,
-- with any buffer that has room for every trace
abbrev pub RowsCalled : Type 0
RowsCalled =
    (net : Net) (log : List ℕ) (budget room : ℕ) → NoneHolds (check_refusals net) → 3 * positions ≤ room
    → All (λ w. replay_says net w.trace budget room ≡ checked_says net w.trace budget) (rows_of log)

-- ---- the share of fitting sessions

-- the net's refusals are given as the net check lists them
abbrev pub ShareNetListed : Type 0
ShareNetListed = (net : Net) (log : List ℕ) (budget : ℕ) → AsListed net_refused (check_refusals net) (share_says net log budget)

-- and where none of them holds, what is said is what is said of the log
abbrev pub ShareOfLog : Type 0
ShareOfLog = (net : Net) (log : List ℕ) (budget : ℕ) → NoneHolds (check_refusals net) → share_says net log budget ≡ says_of_log (checked_share net log budget)

-- the log's refusals are given as those of reading it whole are listed, and last 20
abbrev pub ShareLogListed : Type 0
ShareLogListed = (net : Net) (log : List ℕ) (budget : ℕ) → Answered log_refused (LogRefusalGiven log) (NoLogRefusal log) (checked_share net log budget)

-- figures are said exactly if no refusal of the net holds and they are those of the log's rows, by the answers of the call of replay
-- for each row's trace, with this budget and a buffer that has room for it
abbrev pub ShareSaid : Type 0
ShareSaid =
    (net : Net) (log : List ℕ) (budget : ℕ) (s : Figures)
    → (share_says net log budget ≡ says_of_log (says_figures s))
    ↔ (NoneHolds (check_refusals net) × (ws : List LoggedRow) × AreRows log ws × FiguresOf (λ t. replay_says net t budget (3 * positions)) ws s)

-- no other number in a thousand and no other remainder will do
abbrev pub ThousandOnce : Type 0
ThousandOnce = (fitting all q r p o : ℕ) → InAThousand fitting all q r → InAThousand fitting all p o → (q ≡ p) × (r ≡ o)

-- what is fitting and what is spent are different sessions, and all are at most as many as a log can have; so nothing wraps in 64 bits
pub record Bounded (s : Figures) : Type 0 where
  pub apart : s.fitting + s.spent ≤ s.all
  pub few : s.all ≤ log_sessions
  pub nothing_wraps : 1000 * s.fitting < 2 ^ 64
  pub within_thousand : s.per_thousand ≤ 1000

abbrev pub ShareBounded : Type 0
ShareBounded = (net : Net) (log : List ℕ) (budget : ℕ) (s : Figures) → share_says net log budget ≡ says_of_log (says_figures s) → Bounded s

-- the share passes over the counts of orderly records (02, (viii))
abbrev pub SharePassesOver : Type 0
SharePassesOver = (net other : Net) (log : List ℕ) (budget : ℕ) → Orderly net → Orderly other → SameButCounts net other → share_says net log budget ≡ share_says other log budget
