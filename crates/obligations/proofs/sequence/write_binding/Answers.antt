-- `write_binding` meets its contract: the part that is copied over is a run of stores. Assumes nothing.
use Rattle.std.proofs.Common.{◌∷◌, [], ◌*◌, arith}
use Rattle.obligations.specs.Sequence.{words}
use Rattle.obligations.proofs.StoreLaws.{put-sets}
use Rattle.obligations.proofs.sequence.write_binding.Goals as goal

pub returns : goal.returns
unfolding words
returns c =
    let b = c.args.binding in
    rw c.copy_from_slice.ensures.after (put-sets c.args.out.now (b.activity ∷ b.input ∷ b.output ∷ []) (3 * c.args.position) _ (omega arith) (omega arith))
