-- `share` meets its contract: the net's refusal, or what is answered of a net that has been checked. Assumes nothing.
use Rattle.std.proofs.Common.{sym, ap, ◌∙◌}
use Rattle.net.specs.Refusals.{Says, refusal_number}
use Rattle.net.specs.declared.sides.Side.TheVariants.{Input, Output}
use Rattle.net.proofs.OrderlyLaws.{facts_orderly, orderly_fit}
use Rattle.walks.proofs.CheckLaws.{said_passes}
use Rattle.wholelog.specs.Share.{says_of_log}
use Rattle.wholelog.proofs.RefusalLaws.{share_checked, share_unpassed}
use Rattle.wholelog.proofs.sharing.share.Goals as goal

pub returns-in-Err : goal.returns-in-Err
returns-in-Err c =
    let a = c.args in
    let f = c.in-Err.refused in
    share_unpassed a.net a.log.now a.budget (refusal_number f.refusal) f.place c.in-Err.ensures

pub share_lent-requires : goal.share_lent-requires
share_lent-requires c =
    let net = c.args.net in
    let o = facts_orderly net (said_passes net (ap (λ (y : Says). y.ok) (sym c.in_default.ensures))).is_orderly in
    (orderly_fit net o Input, orderly_fit net o Output)

pub returns-in-Ok : goal.returns-in-Ok
returns-in-Ok c =
    let a = c.args in
    ap says_of_log c.in-Ok.ensures ∙ sym (share_checked a.net a.log.now a.budget (ap (λ (y : Says). y.ok) (sym c.in_default.ensures)))

pub returns-in-Err-share_lent : goal.returns-in-Err-share_lent
returns-in-Err-share_lent c =
    let a = c.args in
    ap says_of_log c.in-Err-share_lent.ensures ∙ sym (share_checked a.net a.log.now a.budget (ap (λ (y : Says). y.ok) (sym c.in_default.ensures)))
