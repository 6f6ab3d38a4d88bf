-- `write_figures` meets its contract: the pieces are the two lines. Assumes nothing.
use Rattle.report.proofs.TextLaws.{share_bytes}
use Rattle.report.proofs.write.write_figures.Goals as goal

pub write_front-requires : goal.write_front-requires
write_front-requires c = rw (share_bytes c.args.figures) at c.requires

pub returns : goal.returns
returns c = rw (share_bytes c.args.figures) c.write_front.ensures
