-- `report_replays` meets its contract: a fault of the log, or its header and its rows. Assumes nothing.
use Rattle.std.proofs.Common.{arith}
use Rattle.net.specs.Refusals.{refusal_number}
use Rattle.report.specs.Report.{log_word}
use Rattle.report.proofs.TextLaws.{refusal_short}
use Rattle.report.proofs.ReportLaws.{rows-faulty, rows-read, table_with_room}
use Rattle.report.proofs.report_replays.Goals as goal

pub write_refusal-requires : goal.write_refusal-requires
write_refusal-requires c = omega (arith, refusal_short log_word (refusal_number c.in-Err.refused.refusal) c.in-Err.refused.place)

pub returns-in-Err : goal.returns-in-Err
returns-in-Err c =
    let f = c.in-Err.refused in
    rw (rows-faulty c.args.net.now c.args.text.now (refusal_number f.refusal) f.place c.in-Err.ensures) c.write_refusal.ensures

pub write_table-requires-clause-room : goal.write_table-requires-clause-room
write_table-requires-clause-room c = omega (arith, table_with_room c.args.net.now c.args.text.now)

pub returns : goal.returns
returns c = rw (rows-read c.args.net.now c.args.text.now 0 c.in_default.ensures) c.write_table.ensures
