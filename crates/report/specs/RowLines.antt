-- The lines that the program `replay` prints of a log's rows (01, "The tables", last part).
use Rattle.std.specs.Prelude.{ℕ, suc, List, [], ◌∷◌, ◌++◌}
use Rattle.text.specs.Lines.{unlines}
use Rattle.text.specs.Fields.{comma, join}
use Rattle.text.specs.Decimal.{print_number}
use Rattle.search.specs.Replay.{ReplaySays, says_found, says_none, says_spent, says_refused}
use Rattle.wholelog.specs.Rows.{LoggedRow}

-- row,sessions,answer,trials
abbrev pub report_header : List ℕ
report_header =
    114 ∷ 111 ∷ 119 ∷ comma ∷ 115 ∷ 101 ∷ 115 ∷ 115 ∷ 105 ∷ 111 ∷ 110 ∷ 115 ∷ comma ∷ 97 ∷ 110 ∷ 115 ∷ 119 ∷ 101 ∷ 114 ∷ comma ∷ 116 ∷ 114 ∷ 105 ∷ 97 ∷ 108 ∷ 115 ∷ []

-- found, none, spent; a replay in a net that has been checked is never refused
abbrev pub answer_word : ReplaySays → List ℕ
answer_word (says_found n) = 102 ∷ 111 ∷ 117 ∷ 110 ∷ 100 ∷ []
answer_word (says_none n) = 110 ∷ 111 ∷ 110 ∷ 101 ∷ []
answer_word (says_spent n) = 115 ∷ 112 ∷ 101 ∷ 110 ∷ 116 ∷ []
answer_word (says_refused n p) = []

abbrev pub answer_trials : ReplaySays → ℕ
answer_trials (says_found n) = n
answer_trials (says_none n) = n
answer_trials (says_spent n) = n
answer_trials (says_refused n p) = 0

-- the line of row r, which has s sessions and whose replay says a
unfoldable pub report_line : ℕ → ℕ → ReplaySays → List ℕ
report_line r s a = unlines (join comma (print_number r ∷ print_number s ∷ answer_word a ∷ print_number (answer_trials a) ∷ []) ∷ [])

-- the lines of rows, of which the first is row r, where their traces' replays answer so
unfoldable pub rows_text : (List ℕ → ReplaySays) → ℕ → List LoggedRow → List ℕ
rows_text answer r [] = []
rows_text answer r (w ∷ ws) = report_line r w.sessions (answer w.trace) ++ rows_text answer (suc r) ws

-- the header and the rows
unfoldable pub table_text : (List ℕ → ReplaySays) → List LoggedRow → List ℕ
table_text answer ws = unlines (report_header ∷ []) ++ rows_text answer 1 ws
