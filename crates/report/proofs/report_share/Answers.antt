-- `report_share` meets its contract: the figures' lines, or a refusal of the log. Assumes nothing.
use Rattle.std.proofs.Common.{sym, arith}
use Rattle.net.specs.Refusals.{refusal_number}
use Rattle.net.specs.declared.sides.Side.TheVariants.{Input, Output}
use Rattle.net.proofs.OrderlyLaws.{orderly_fit}
use Rattle.wholelog.specs.Share.{says_figures, log_refused}
use Rattle.report.specs.Report.{log_word}
use Rattle.report.proofs.TextLaws.{refusal_short, share_short}
use Rattle.report.proofs.ReportLaws.{share_is-said}
use Rattle.report.proofs.report_share.Goals as goal

pub share_lent-requires : goal.share_lent-requires
share_lent-requires c = (orderly_fit c.args.net.now c.requires.0 Input, orderly_fit c.args.net.now c.requires.0 Output)

pub write_figures-requires : goal.write_figures-requires
write_figures-requires c = omega (arith, share_short c.in-Ok.figures, c.requires.1)

pub write_refusal-requires : goal.write_refusal-requires
write_refusal-requires c = omega (arith, refusal_short log_word (refusal_number c.in-Err.refused.refusal) c.in-Err.refused.place, c.requires.1)

pub returns-in-Ok : goal.returns-in-Ok
returns-in-Ok c = rw (sym (share_is-said c.args.net.now c.args.text.now (says_figures c.in-Ok.figures) c.in-Ok.ensures)) c.write_figures.ensures

pub returns-in-Err : goal.returns-in-Err
returns-in-Err c =
    let f = c.in-Err.refused in
    rw (sym (share_is-said c.args.net.now c.args.text.now (log_refused (refusal_number f.refusal) f.place) c.in-Err.ensures)) c.write_refusal.ensures
