-- `print_refusal` meets its contract: a refusal is no longer than its buffer.
use Rattle.std.proofs.Common.{sym, arith, length-take-le}
use Rattle.net.specs.Refusals.{refusal_number}
use Rattle.report.specs.Report.{net_word}
use Rattle.report.proofs.TextLaws.{refusal_short}
use Rattle.file_report.proofs.print_refusal.Goals as goal

pub write_refusal-n-requires : goal.write_refusal-n-requires
write_refusal-n-requires g c = omega (arith, refusal_short net_word (refusal_number c.args.refused.refusal) c.args.refused.place)

pub slice_bounds-out-end : goal.slice_bounds-out-end
slice_bounds-out-end g c = omega (arith, c.write_refusal-n.ensures.next, refusal_short net_word (refusal_number c.args.refused.refusal) c.args.refused.place)

pub slice_bounds-print-end : goal.slice_bounds-print-end
slice_bounds-print-end g c = sym (length-take-le _ _ (omega (arith, c.write_refusal-n.ensures.next, refusal_short net_word (refusal_number c.args.refused.refusal) c.args.refused.place)))
