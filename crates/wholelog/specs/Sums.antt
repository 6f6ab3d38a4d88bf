-- The sums that the code keeps while it goes through the rows: definitions of which only contracts of private functions speak.
use Rattle.std.specs.Prelude.{ℕ, ◌+◌, ◌≤◌, List}
use Rattle.search.specs.Replay.{ReplaySays}
use Rattle.search.specs.declared.Outcome.{Outcome}
use Rattle.search.specs.declared.Outcome.TheVariants.{Found, Failed, Spent}
use Rattle.wholelog.specs.Rows.{LoggedRow}
use Rattle.wholelog.specs.Share.{sessions_of, fitting_of, spent_of, log_sessions}
use Rattle.wholelog.specs.declared.sharing.Sums.{Sums}

-- of rows whose traces' replays answer so
unfoldable pub sums_of : (List ℕ → ReplaySays) → List LoggedRow → Sums
sums_of answer ws = record { fitting = fitting_of answer ws; spent = spent_of answer ws; all = sessions_of ws }

-- with a row more of so many sessions, whose search had this outcome
abbrev pub sums_with : Sums → ℕ → Outcome → Sums
sums_with s n (Found t) = record s { fitting = s.fitting + n; all = s.all + n }
sums_with s n (Failed t) = record s { all = s.all + n }
sums_with s n (Spent t) = record s { spent = s.spent + n; all = s.all + n }

-- no sum is above what a log can have
pub record Within (s : Sums) : Type 0 where
  pub few_fitting : s.fitting ≤ log_sessions
  pub few_spent : s.spent ≤ log_sessions
  pub few : s.all ≤ log_sessions
