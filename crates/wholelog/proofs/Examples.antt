-- The definitions computed on the net F of paper 01 and short logs: of two rows, without rows, with a fault, without a header.
-- Assumes nothing.
use Prim.Native.Nat.{ℕ}
use mathlib.Core.Path.{◌≡◌, refl}
use mathlib.Core.List.{List, [], ◌∷◌}
use Rattle.obligations.specs.Sets.{keep, members_from, members}
use Rattle.obligations.specs.Places.{places_of}
use Rattle.obligations.specs.State.{inputs, outputs, all_due, lowered, raised, possible, taken, added, after, all_zero}
use Rattle.obligations.specs.Tests.{first_from, first_failing}
use Rattle.obligations.specs.Trace.{ends_agree, shaped}
use Rattle.text.specs.Lines.{unlines}
use Rattle.text.specs.Fields.{comma, space}
use Rattle.text.specs.Decimal.{is_number}
use Rattle.net.specs.Examples.{F}
use Rattle.logfile.specs.LogFile.{is_sessions, read_fields, read_line, row_after, log_header, sizes_ok, read_row}
use Rattle.search.specs.Search.{trials_of, later, or_else, behind, trial_if, trial, try_outputs, try_inputs, at_end, search_from, search_of}
use Rattle.search.specs.Replay.{end_says, replayed, within_budget, checked_says}
use Rattle.wholelog.specs.Rows.{logged}
use Rattle.wholelog.specs.Share.{LogSays, says_figures, log_refused}
use Rattle.wholelog.specs.Computed.{log_says, found_rows, rows_of, share_out, figures_of, checked_share}

-- `2,0 1 3` and `1,0 3`, of which the first is found with 3 trials and the second none with 12
first : List ℕ
first = 50 ∷ comma ∷ 48 ∷ space ∷ 49 ∷ space ∷ 51 ∷ []

second : List ℕ
second = 49 ∷ comma ∷ 48 ∷ space ∷ 51 ∷ []

log : List (List ℕ) → List ℕ
log ls = unlines (log_header ∷ ls)

-- q, r, fitting, spent and all
figures : ℕ → ℕ → ℕ → ℕ → ℕ → LogSays
figures q r fitting spent all = says_figures (record { per_thousand = q; remainder = r; fitting = fitting; spent = spent; all = all })

its_rows : rows_of (log (first ∷ second ∷ [])) ≡ logged 2 (0 ∷ 1 ∷ 3 ∷ []) ∷ logged 1 (0 ∷ 3 ∷ []) ∷ []
unfolding first second log read_row sizes_ok row_after read_line read_fields is_sessions is_number found_rows rows_of
its_rows = refl

-- a thousand times 2 is 666 times 3 and 2; with 11 trials, one fewer than the second row needs, its session is spent, and with 2 all are
shares :
    (checked_share F (log (first ∷ second ∷ [])) 12 ≡ figures 666 2 2 0 3)
    × (checked_share F (log (first ∷ second ∷ [])) 11 ≡ figures 666 2 2 1 3)
    × (checked_share F (log (first ∷ second ∷ [])) 2 ≡ figures 0 0 0 3 3)
    × (checked_share F (log []) 12 ≡ log_refused 20 0)
    × (checked_share F (log (first ∷ [] ∷ [])) 12 ≡ log_refused 13 3)
    × (checked_share F [] 12 ≡ log_refused 13 1)
unfolding F first second log figures read_row sizes_ok row_after read_line read_fields is_sessions is_number found_rows rows_of log_says share_out figures_of checked_share keep members_from members places_of inputs outputs all_due lowered raised possible taken added after all_zero first_from first_failing trials_of later or_else behind trial_if trial try_outputs try_inputs at_end search_from search_of ends_agree shaped end_says replayed within_budget checked_says
shares = (refl, refl, refl, refl, refl, refl)
