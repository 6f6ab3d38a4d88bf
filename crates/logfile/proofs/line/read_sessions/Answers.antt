-- `read_sessions` meets its contract: a number, and not 0. Assumes nothing.
use Rattle.std.proofs.Common.{rules, tests}
use Rattle.logfile.proofs.RowLaws.{sessions_kept}
use Rattle.logfile.proofs.line.read_sessions.Goals as goal

pub returns : goal.returns
returns c = sessions_kept c.args.field.now _ (λ v b p. search (rules, tests)) c.read_number.result c.filter.result c.read_number.ensures c.filter.ensures
