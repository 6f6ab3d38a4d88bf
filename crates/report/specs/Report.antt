-- What the programs `replay` and `share` print (01, "The tables", last part; 02, (vi)): for the bytes of a net file and of a log file,
-- the bytes of the report. The net's size is tested first, then its lines, the net check, the log's size and the log's lines.
use Rattle.std.specs.Prelude.{ℕ, List, [], ◌∷◌, leb, length}
use Rattle.text.specs.Lines.{unlines}
use Rattle.text.specs.Fields.{comma, join}
use Rattle.text.specs.Decimal.{print_number}
use Rattle.net.specs.Refusals.{outside_limits}
use Rattle.net.specs.Chains.{unless_by}
use Rattle.net.specs.declared.Net.{Net}
use Rattle.walks.specs.Check.{check_says}
use Rattle.netfile.specs.NetFile.{FileReading, refused_at, read_net}
use Rattle.search.specs.Replay.{checked_says}
use Rattle.wholelog.specs.Computed.{log_says, rows_of, checked_share}
use Rattle.wholelog.specs.Share.{LogSays, says_figures, log_refused}
use Rattle.report.specs.RowLines.{table_text}
use Rattle.report.specs.ShareLines.{figures_text}
use Rattle.report.specs.declared.ReportKind.{ReportKind}
use Rattle.report.specs.declared.ReportKind.TheVariants.{Replays, Share}

-- each of the two files has at most this many bytes
abbrev pub file_bytes : ℕ
file_bytes = 65536

-- the budget of a row's replay
abbrev pub row_budget : ℕ
row_budget = 1000000

-- a buffer of this many bytes has room for every report
abbrev pub report_room : ℕ
report_room = 32768

-- ---- a refusal

-- refused
abbrev pub refused_word : List ℕ
refused_word = 114 ∷ 101 ∷ 102 ∷ 117 ∷ 115 ∷ 101 ∷ 100 ∷ []

-- net
abbrev pub net_word : List ℕ
net_word = 110 ∷ 101 ∷ 116 ∷ []

-- log
abbrev pub log_word : List ℕ
log_word = 108 ∷ 111 ∷ 103 ∷ []

-- the line of a refusal, for a file's word
unfoldable pub refusal_text : List ℕ → ℕ → ℕ → List ℕ
refusal_text file n line = unlines (join comma (refused_word ∷ file ∷ print_number n ∷ print_number line ∷ []) ∷ [])

-- ---- a log, in a net that has been checked

-- the rows, each with its replay
unfoldable pub replays_text : Net → List ℕ → List ℕ
replays_text net log =
    unless_by (refusal_text log_word) (log_says log).ok (log_says log).refusal (log_says log).place
    (table_text (λ t. checked_says net t row_budget) (rows_of log))

-- the share of fitting sessions
abbrev pub said_text : LogSays → List ℕ
said_text (says_figures s) = figures_text s
said_text (log_refused n p) = refusal_text log_word n p

unfoldable pub share_text : Net → List ℕ → List ℕ
share_text net log = said_text (checked_share net log row_budget)

abbrev pub kind_text : ReportKind → Net → List ℕ → List ℕ
kind_text Replays net log = replays_text net log
kind_text Share net log = share_text net log

unfoldable pub checked_text : ReportKind → Net → List ℕ → List ℕ
checked_text kind net log = unless_by (refusal_text log_word) (leb (length log) file_bytes) outside_limits 0 (kind_text kind net log)

-- ---- both files

-- the net of a file: its size is tested first, then its lines, then the net; a refusal of the net check has no line
unfoldable pub read_checked : List ℕ → FileReading
read_checked text =
    let r = read_net text in
    let c = check_says r.net in
    unless_by refused_at (leb (length text) file_bytes) outside_limits 0
    (unless_by refused_at r.says.ok r.says.refusal r.says.place
    (unless_by refused_at c.ok c.refusal 0
    r))

unfoldable pub report_text : ReportKind → List ℕ → List ℕ → List ℕ
report_text kind net log =
    let r = read_checked net in
    unless_by (refusal_text net_word) r.says.ok r.says.refusal r.says.place
    (checked_text kind r.net log)
