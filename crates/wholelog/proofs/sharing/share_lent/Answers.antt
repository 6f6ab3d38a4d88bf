-- `share_lent` meets its contract: a fault of the log, no rows, or the figures. Assumes nothing.
use Rattle.std.proofs.Common.{sym, ap, ◌∙◌}
use Rattle.std.proofs.lemmas.Result.{err_from_is_err_and}
use Rattle.net.specs.Refusals.{refusal_number}
use Rattle.search.specs.Replay.{checked_says}
use Rattle.wholelog.specs.Computed.{rows_of}
use Rattle.wholelog.specs.declared.sharing.Sums.{Sums}
use Rattle.wholelog.proofs.RowsLaws.{found_within}
use Rattle.wholelog.proofs.SumLaws.{sums-within}
use Rattle.wholelog.proofs.ShareLaws.{faulty_share, share-no_rows, share-figures}
use Rattle.wholelog.proofs.sharing.share_lent.Goals as goal

pub returns-in_err-check_log : goal.returns-in_err-check_log
returns-in_err-check_log c =
    let a = c.args in
    let f = c.in_err-check_log.field-0.0 in
    let r = err_from_is_err_and c.from_residual.result c.from_residual.ensures.1 in
    rw (r.1, r.2) (faulty_share a.net.now a.log.now a.budget (refusal_number f.refusal) f.place c.in_err-check_log.ensures)

pub returns-then-sums-eq0 : goal.returns-then-sums-eq0
returns-then-sums-eq0 c =
    let a = c.args in
    let z = ap (λ (s : Sums). s.all) (sym c.replay_rows-sums.ensures) ∙ c.if-sums-eq0.true in
    rw c.at.ensures (share-no_rows a.net.now a.log.now a.budget c.in_ok-check_log.ensures z)

pub figures-requires-clause-within : goal.figures-requires-clause-within
figures-requires-clause-within c =
    let a = c.args in
    let h = found_within a.log.now in
    rw c.replay_rows-sums.ensures (sums-within (λ t. checked_says a.net.now t a.budget) (rows_of a.log.now) h.0 h.1)

pub returns : goal.returns
returns c =
    let a = c.args in
    rw c.figures.ensures (share-figures a.net.now a.log.now a.budget c.in_ok-check_log.ensures c.replay_rows-sums.result c.replay_rows-sums.ensures c.if-sums-eq0.false)
