-- `is_zero` meets its contract: all counts are zero exactly if those of each part are. Assumes nothing.
use Rattle.std.proofs.Common.{◌≡◌, refl, true, false, ◌∙◌, rules}
use Rattle.std.proofs.lemmas.Iterator.{cases_from_all, YieldsList-from_range}
use Rattle.obligations.proofs.StateLaws.{zero_in, zero_parts}
use Rattle.obligations.proofs.state.Due.is_zero.Goals as goal

pub returns : goal.returns
returns c =
    let d = c.self.inside.counts in
    zero_parts d c.all.result c.self.invariant
    (cases_from_all _ _ _ (λ k. true ≡ zero_in d k) (λ k. false ≡ zero_in d k) c.all.ensures.ran (YieldsList-from_range 0 4 4 refl refl) (λ x q h. search rules) (λ x q h. search rules))
    ∙ cc
