-- `insert_at` meets its contract: what the move leaves in the part, said of the whole array. Assumes nothing.
use Rattle.net.proofs.InsertLaws.{moved_splice}
use Rattle.net.proofs.putting.insert_at.Goals as goal

pub returns : goal.returns
returns c = rw c.copy_within.ensures.after (moved_splice c.args.list.now c.args.at c.args.to c.args.x c.requires.0 c.requires.1)
