-- The statements of specs/Statements.antt. Assumes nothing.
use Prim.Native.Nat.{◌+◌}
use native.Mathlib.Omega.{arith}
use lib.ListN.{length-map}
use Rattle.text.specs.Decimal.{value}
use Rattle.logfile.specs.LogFile.{entries}
use Rattle.logfile.specs.Statements.{RowListed, RowSaid, RowIsTrace, CursorReadsNext, LaterSame}
use Rattle.logfile.proofs.AnswerLaws.{line_row, line-sessions, line-entries}
use Rattle.logfile.proofs.CursorLaws as cursor
use Rattle.logfile.proofs.RefusalLaws as refusals

pub row_listed : RowListed
row_listed = refusals.row_listed

pub row_said : RowSaid
row_said text r room = (refusals.row_said text r room, refusals.end_said text r room)

pub row-is_trace : RowIsTrace
row-is_trace text r room s t e =
    let h = cursor.row_on_line text r room s t e in
    let w = line_row (r + 1) h.0 s t h.2 in
    record {
      few_rows = omega (arith, w.line_low);
      some_sessions = (line-sessions w).0;
      few_sessions = (line-sessions w).1;
      few_entries = rw w.trace_is (omega (arith, w.few, length-map (entries w.trace) value));
      activities_only = λ k m. omega (arith, line-entries w k m);
    }

pub cursor_reads-next : CursorReadsNext
cursor_reads-next = cursor.cursor_reads-next

pub later_same : LaterSame
later_same = cursor.later_same
