-- `table_lines` meets its contract: the header, and then the rows. Assumes nothing.
use Rattle.std.proofs.Common.{refl, sym, [], ◌∷◌}
use mathlib.Core.List.{append-nil}
use Rattle.text.specs.Lines.{unlines}
use Rattle.text.proofs.StoreLaws.{storing_start, storing_room, storing_more, storing_end}
use Rattle.search.specs.Replay.{checked_says}
use Rattle.wholelog.specs.Computed.{rows_of}
use Rattle.report.specs.RowLines.{report_header, rows_text, table_text}
use Rattle.report.specs.Report.{row_budget}
use Rattle.report.proofs.table_lines.Goals as goal

pub bytes-requires : goal.bytes-requires
unfolding table_text
bytes-requires c =
    let a = c.args in
    let l = storing_start a.out.now (table_text (λ t. checked_says a.net.now t row_budget) (rows_of a.text.now)) _ c.requires.room refl in
    storing_room _ _ _ _ l (unlines (report_header ∷ [])) (rows_text (λ t. checked_says a.net.now t row_budget) 1 (rows_of a.text.now)) refl

pub write_rows-requires-clause-room : goal.write_rows-requires-clause-room
unfolding table_text
write_rows-requires-clause-room c =
    let a = c.args in
    let l = storing_start a.out.now (table_text (λ t. checked_says a.net.now t row_budget) (rows_of a.text.now)) _ c.requires.room refl in
    let m = storing_more _ _ _ _ l (unlines (report_header ∷ [])) (rows_text (λ t. checked_says a.net.now t row_budget) 1 (rows_of a.text.now)) _ refl c.bytes.ensures in
    storing_room _ _ _ _ m (rows_text (λ t. checked_says a.net.now t row_budget) 1 (rows_of a.text.now)) [] (sym (append-nil _))

pub returns : goal.returns
unfolding table_text
returns c =
    let a = c.args in
    let l = storing_start a.out.now (table_text (λ t. checked_says a.net.now t row_budget) (rows_of a.text.now)) _ c.requires.room refl in
    let m = storing_more _ _ _ _ l (unlines (report_header ∷ [])) (rows_text (λ t. checked_says a.net.now t row_budget) 1 (rows_of a.text.now)) _ refl c.bytes.ensures in
    storing_end _ _ _ _ (storing_more _ _ _ _ m (rows_text (λ t. checked_says a.net.now t row_budget) 1 (rows_of a.text.now)) [] _ (sym (append-nil _)) c.write_rows.ensures) refl
