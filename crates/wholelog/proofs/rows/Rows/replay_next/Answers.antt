-- `Rows::replay_next` meets its contract: the next row's trace is one that a replay takes. Assumes nothing.
use Rattle.std.proofs.Common.{◌≡◌, ◌*◌, length}
use borrow.Author.Rules.{rules}
use Rattle.obligations.specs.Limits.{positions}
use Rattle.wholelog.proofs.LeftLaws.{given-with_room}
use Rattle.wholelog.proofs.rows.Rows.replay_next.Goals as goal

pub replay_lent-outcome-requires-clause-trace_with_room : goal.replay_lent-outcome-requires-clause-trace_with_room
replay_lent-outcome-requires-clause-trace_with_room c =
    let long : length c.args.bindings.now ≡ 3 * positions = search rules in
    rw (c.trace.ensures, long) (given-with_room c.args.self.now c.next.new.self c.in_ok-row.row c.in_ok-row.ensures)
