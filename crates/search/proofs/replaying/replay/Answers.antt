-- `replay` meets its contract: the refusals number by number, and then the replay in the net that passed. Assumes nothing.
use Rattle.std.proofs.Common.{◌≡◌, sym, ap, ◌∙◌, arith, length, get_or}
use Rattle.obligations.proofs.PositionLaws.{some_position, none_position}
use Rattle.obligations.proofs.TraceLaws.{activities_below}
use Rattle.net.specs.Refusals.{accepted, refused, no_activity}
use Rattle.net.specs.declared.sides.Side.TheVariants.{Input, Output}
use Rattle.net.specs.Traces.{no_activity_in}
use Rattle.net.proofs.OrderlyLaws.{orderly_fit}
use Rattle.net.proofs.UncountedLaws.{uncounted-orderly}
use Rattle.walks.proofs.CheckLaws.{passing_rest, answer_clear, answer_refused}
use Rattle.search.proofs.TraceLaws.{no_activity-ones, room_facts}
use Rattle.search.proofs.ReplayLaws.{refuses_disorderly, refuses_room, refuses_activity, tests_net, refused_done, unrefused_done}
use Rattle.search.proofs.replaying.replay.Goals as goal

pub check_lent-requires : goal.check_lent-requires
check_lent-requires c = uncounted-orderly c.args.net (sym c.if-not-is_orderly.ensures)

pub returns-then-not-is_orderly : goal.returns-then-not-is_orderly
returns-then-not-is_orderly c =
    let g = c.args in
    rw c.at.ensures (refused_done g.net g.trace.now _ _ _ (refuses_disorderly g.net g.trace.now _ (sym c.if-not-is_orderly.ensures)))

pub returns-then-not-has_room : goal.returns-then-not-has_room
returns-then-not-has_room c =
    let g = c.args in
    rw c.at-then-not-has_room.ensures (refused_done g.net g.trace.now _ _ _ (refuses_room g.net g.trace.now _ (sym c.if-not-is_orderly.ensures) (sym c.if-not-has_room.ensures)))

pub first_no_activity-requires : goal.first_no_activity-requires
first_no_activity-requires c = let few = (room_facts _ _ (sym c.if-not-has_room.ensures)).0 in (omega arith, omega arith, omega arith)

pub returns-in-Some : goal.returns-in-Some
returns-in-Some c =
    let g = c.args in
    let p = some_position _ _ (sym c.in-Some.ensures) in
    let is : no_activity_in g.trace.now ≡ c.in-Some.place = sym (no_activity-ones g.trace.now) ∙ p.0 in
    rw c.at-in-Some.ensures
    (refused_done g.net g.trace.now _ _ _
    (refuses_activity g.net g.trace.now _ (sym c.if-not-is_orderly.ensures) (sym c.if-not-has_room.ensures) (λ z. omega (arith, p.1)) ∙ ap (refused no_activity) is))

pub returns-in-Err : goal.returns-in-Err
returns-in-Err c =
    let g = c.args in
    let a = sym (no_activity-ones g.trace.now) ∙ none_position _ (sym c.in_default.ensures) in
    let net_decides = tests_net g.net g.trace.now (length g.out.now) (sym c.if-not-is_orderly.ensures) (sym c.if-not-has_room.ensures) a in
    refused_done g.net g.trace.now _ _ _ (net_decides ∙ answer_refused g.net c.check_lent.result c.check_lent.ensures (accepted 0) _ c.in-Err.is)

pub replay_lent-requires-clause-sides : goal.replay_lent-requires-clause-sides
replay_lent-requires-clause-sides c = let o = sym c.if-not-is_orderly.ensures in (orderly_fit c.args.net o Input, orderly_fit c.args.net o Output)

pub replay_lent-requires-clause-trace_with_room : goal.replay_lent-requires-clause-trace_with_room
replay_lent-requires-clause-trace_with_room c =
    let trace = c.args.trace.now in
    let f = room_facts _ _ (sym c.if-not-has_room.ensures) in
    let a = sym (no_activity-ones trace) ∙ none_position _ (sym c.in_default.ensures) in
    record { few_positions = f.0; activities_only = activities_below (length trace) (λ i. get_or trace i 0) a; three_words_each = f.1 }

pub returns-in-Ok : goal.returns-in-Ok
returns-in-Ok c =
    let g = c.args in
    let a = sym (no_activity-ones g.trace.now) ∙ none_position _ (sym c.in_default.ensures) in
    let net_decides = tests_net g.net g.trace.now (length g.out.now) (sym c.if-not-is_orderly.ensures) (sym c.if-not-has_room.ensures) a in
    let clear = answer_clear g.net c.check_lent.result c.check_lent.ensures _ c.in-Ok.is in
    unrefused_done g.net g.trace.now _ (net_decides ∙ passing_rest g.net _ clear) c.replay_lent.ensures
