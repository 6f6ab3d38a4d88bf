-- `bytes` meets its contract: the part that is copied over is a run of stores. Assumes nothing.
use Rattle.std.proofs.Common.{refl, arith}
use Rattle.text.proofs.WriteLaws.{appends_part}
use Rattle.text.proofs.out.Out.bytes.Goals as goal

pub returns : goal.returns
returns c = appends_part c.args.self.now _ c.args.t.now c.copy_from_slice.new.self _ c.requires c.copy_from_slice.ensures.after (omega arith) refl refl refl
