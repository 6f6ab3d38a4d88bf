-- The refusals of the calls that are given a net and a whole log, as sentences (02, (vi)): first the net's, then the log's by line,
-- then 20.
use Rattle.std.specs.Prelude.{ℕ, ◌+◌, ◌⊎◌}
use mathlib.Core.List.{List, [], ◌∷◌}
use Rattle.obligations.specs.Limits.{positions}
use Rattle.net.specs.Refusals.{no_rows}
use Rattle.net.specs.Sentences.{Sentence, whole, NoneHolds, IsGiven, IsGivenByLine}
use Rattle.logfile.specs.Limits.{log_rows}
use Rattle.logfile.specs.Refusals.{LineIs, row_refusals}

-- of a whole log: those of the row after the last that a log may have, read with a buffer that has room for it. That row's line is
-- refused whatever stands on it, so nothing is missed behind it
abbrev pub log_refusals : List ℕ → ℕ → List Sentence
log_refusals log line = row_refusals log (log_rows + 1) positions line

-- reading a log whole isn't refused
abbrev pub LogReads : List ℕ → Type 0
LogReads log = (line : ℕ) → NoneHolds (log_refusals log line)

-- 20: the log has no rows
abbrev pub HasNoRows : List ℕ → Type 0
HasNoRows log = (l : List ℕ) → LineIs log 2 l → ⊥

abbrev pub no_rows_refusals : List ℕ → List Sentence
no_rows_refusals log = whole no_rows (HasNoRows log) ∷ []

-- a share's refusal of the log: one of reading it whole, or where none of those holds 20
abbrev pub LogRefusalGiven : List ℕ → ℕ → ℕ → Type 0
LogRefusalGiven log number line = IsGivenByLine (log_refusals log) number line ⊎ (LogReads log × IsGiven (no_rows_refusals log) number line)

abbrev pub NoLogRefusal : List ℕ → Type 0
NoLogRefusal log = LogReads log × NoneHolds (no_rows_refusals log)
