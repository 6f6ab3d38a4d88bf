-- `has_room` meets its contract: by the two tests of lengths. Assumes nothing.
use Rattle.std.proofs.Common.{sym, ◌∙◌}
use borrow.Author.Tests.{lt-leb}
use Rattle.search.proofs.TraceLaws.{room_short, room_long}
use Rattle.search.proofs.replaying.has_room.Goals as goal

pub returns-then-n-le-POSITIONS : goal.returns-then-n-le-POSITIONS
returns-then-n-le-POSITIONS c = sym (room_short _ _ c.if-n-le-POSITIONS.true)

pub returns-else-n-le-POSITIONS : goal.returns-else-n-le-POSITIONS
returns-else-n-le-POSITIONS c = lt-leb _ _ c.if-n-le-POSITIONS.false ∙ sym (room_long _ _ c.if-n-le-POSITIONS.false)
