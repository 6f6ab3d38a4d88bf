-- `report_log` meets its contract: too long, or the report of its kind. Assumes nothing.
use Rattle.std.proofs.Common.{ap, ◌∙◌, arith}
use Rattle.net.specs.Refusals.{refusal_number}
use Rattle.report.specs.Report.{log_word, kind_text}
use Rattle.report.specs.declared.ReportKind.{ReportKind}
use Rattle.report.proofs.TextLaws.{refusal_short}
use Rattle.report.proofs.ReportLaws.{log_long, log_within}
use Rattle.report.proofs.report_log.Goals as goal

pub write_refusal-requires : goal.write_refusal-requires
write_refusal-requires c = omega (arith, refusal_short log_word (refusal_number c.at.result.refusal) c.at.result.place)

pub returns-then-text-gt-FILE_BYTES : goal.returns-then-text-gt-FILE_BYTES
returns-then-text-gt-FILE_BYTES c = rw (log_long c.args.kind c.args.net c.args.text.now c.if-text-gt-FILE_BYTES.true) (rw c.at.ensures at c.write_refusal.ensures)

pub returns-in-Replays : goal.returns-in-Replays
returns-in-Replays c =
    rw (log_within c.args.kind c.args.net c.args.text.now c.if-text-gt-FILE_BYTES.false ∙ ap (λ (kind : ReportKind). kind_text kind c.args.net c.args.text.now) c.in-Replays.is) c.report_replays.ensures

pub returns-in-Share : goal.returns-in-Share
returns-in-Share c =
    rw (log_within c.args.kind c.args.net c.args.text.now c.if-text-gt-FILE_BYTES.false ∙ ap (λ (kind : ReportKind). kind_text kind c.args.net c.args.text.now) c.in-Share.is) c.report_share.ensures
