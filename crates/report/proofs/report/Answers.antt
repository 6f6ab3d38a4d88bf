-- `report` meets its contract: a refusal of the net, or the report of the log. Assumes nothing.
use Rattle.std.proofs.Common.{sym, ap, ◌∙◌, arith}
use borrow.Author.Rules.{rules}
use Rattle.net.specs.Refusals.{Says, refusal_number}
use Rattle.net.specs.Orderly.{orderly}
use Rattle.net.specs.declared.Net.{Net}
use Rattle.netfile.specs.NetFile.{net_means}
use Rattle.report.specs.Report.{net_word, checked_text}
use Rattle.report.proofs.TextLaws.{refusal_short}
use Rattle.report.proofs.ReportLaws.{checked_orderly, report_net-refused, report_net-checked}
use Rattle.report.proofs.report.Goals as goal

pub report_log-requires : goal.report_log-requires
report_log-requires c = (ap orderly c.read_checked-read.ensures.gives ∙ checked_orderly c.args.net_text.now, search rules)

pub write_refusal-requires : goal.write_refusal-requires
write_refusal-requires c = omega (arith, refusal_short net_word (refusal_number c.in-Err.refused.refusal) c.in-Err.refused.place)

pub returns-in-Ok : goal.returns-in-Ok
returns-in-Ok c =
    let a = c.args in
    let r = c.read_checked-read in
    rw (report_net-checked a.kind a.net_text.now a.log_text.now (ap (λ (y : Says). y.ok) (sym r.ensures.says ∙ ap net_means c.in-Ok.is)) ∙ ap (λ (n : Net). checked_text a.kind n a.log_text.now) (sym r.ensures.gives)) c.report_log.ensures

pub returns-in-Err : goal.returns-in-Err
returns-in-Err c =
    let a = c.args in
    let r = c.read_checked-read in
    rw (report_net-refused a.kind a.net_text.now a.log_text.now (refusal_number c.in-Err.refused.refusal) c.in-Err.refused.place (sym r.ensures.says ∙ ap net_means c.in-Err.is)) c.write_refusal.ensures
