-- `is_zero_part` meets its contract: what all counts have together is zero exactly if each of them is. Assumes nothing.
use Rattle.std.proofs.Common.{◌≡◌, ℕ, ap, ◌∙◌, rules, bit_or, fold, eqb}
use Rattle.std.proofs.iter.runs.Made.{chains}
use Rattle.obligations.proofs.StateLaws.{zero_fold}
use Rattle.obligations.proofs.state.is_zero_part.Goals as goal

pub returns : goal.returns
returns c =
    let e : c.fold.result ≡ fold bit_or 0 c.args.counts.now = search (rules, chains) in
    ap (λ (n : ℕ). eqb n 0) e ∙ zero_fold 0 _
