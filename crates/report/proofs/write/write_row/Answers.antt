-- `write_row` meets its contract: the pieces are the line. Assumes nothing.
use Rattle.search.specs.Replay.{outcome_means}
use Rattle.report.proofs.TextLaws.{row_bytes}
use Rattle.report.proofs.write.write_row.Goals as goal

pub write_pieces-requires : goal.write_pieces-requires
write_pieces-requires c =
    let a = c.args in
    rw (c.from.ensures, c.from-2.ensures, c.told-trials.ensures.word, c.told-trials.ensures.trials) (rw (row_bytes a.row.row a.row.sessions (outcome_means a.row.outcome)) at c.requires)

pub returns : goal.returns
returns c =
    let a = c.args in
    rw (row_bytes a.row.row a.row.sessions (outcome_means a.row.outcome)) (rw (c.from.ensures, c.from-2.ensures, c.told-trials.ensures.word, c.told-trials.ensures.trials) at c.write_pieces.ensures)
