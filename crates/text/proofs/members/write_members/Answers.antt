-- `write_members` meets its contract. The loop's invariant: the members left, once taken, are the whole list. Assumes nothing.
use Rattle.std.proofs.Common.{◌≡◌, ◌∷◌, ◌++◌, [], refl, sym, ap, ◌∙◌}
use Rattle.obligations.specs.Sets.{members}
use Rattle.text.specs.Fields.{space}
use Rattle.text.specs.Decimal.{print_number}
use Rattle.text.specs.Members.{print_members}
use Rattle.text.proofs.MemberWriteLaws.{spaced, print_none, print_first}
use Rattle.text.proofs.SinkLaws.{left_start, left_room, left_more, left_end}
use Rattle.text.proofs.members.write_members.Goals as goal

pub returns-in_default : goal.returns-in_default
returns-in_default g c =
    let e = ap members (sym c.members-others.ensures) ∙ c.in_default.ensures.steps.0 in
    left_end g.met.S.Sink.laws (left_start g.met.S.Sink.laws c.args.out.now (print_members c.args.set) (print_members c.args.set) c.requires refl) (print_none c.args.set e)

pub number-requires : goal.number-requires
number-requires g c =
    let e : members c.args.set ≡ c.in-Some.first ∷ members c.next.new.self.rest = ap members (sym c.members-others.ensures) ∙ c.in-Some.ensures.steps in
    left_room g.met.S.Sink.laws (left_start g.met.S.Sink.laws c.args.out.now (print_members c.args.set) (print_members c.args.set) c.requires refl) (print_number c.in-Some.first) (spaced (members c.next.new.self.rest)) (ap print_number c.from.ensures) (print_first c.args.set _ _ e)

pub loop-k-init : goal.loop-k-init
loop-k-init g c =
    let e : members c.args.set ≡ c.in-Some.first ∷ members c.next.new.self.rest = ap members (sym c.members-others.ensures) ∙ c.in-Some.ensures.steps in
    rw c.into_iter-k-iterator.ensures.into_iter_gives
    (left_more g.met.S.Sink.laws (left_start g.met.S.Sink.laws c.args.out.now (print_members c.args.set) (print_members c.args.set) c.requires refl) (print_number c.in-Some.first) (spaced (members c.next.new.self.rest)) (ap print_number c.from.ensures) (print_first c.args.set _ _ e) c.number.ensures)

pub bytes-requires : goal.bytes-requires
bytes-requires g c =
    let k = c.in-Some-k.k in
    let rest = spaced (members c.next-in-loop-k.new.self.rest) in
    left_room g.met.S.Sink.laws c.loop-k.invariant (space ∷ []) (print_number k ++ rest) refl (ap spaced c.in-Some-k.ensures.steps)

pub number-requires-in-loop-k : goal.number-requires-in-loop-k
number-requires-in-loop-k g c =
    let k = c.in-Some-k.k in
    let rest = spaced (members c.next-in-loop-k.new.self.rest) in
    let spaced_on = left_more g.met.S.Sink.laws c.loop-k.invariant (space ∷ []) (print_number k ++ rest) refl (ap spaced c.in-Some-k.ensures.steps) c.bytes.ensures in
    left_room g.met.S.Sink.laws spaced_on (print_number k) rest (ap print_number c.from-in-loop-k.ensures) refl

pub loop-k-preserved : goal.loop-k-preserved
loop-k-preserved g c =
    let k = c.in-Some-k.k in
    let rest = spaced (members c.next-in-loop-k.new.self.rest) in
    let spaced_on = left_more g.met.S.Sink.laws c.loop-k.invariant (space ∷ []) (print_number k ++ rest) refl (ap spaced c.in-Some-k.ensures.steps) c.bytes.ensures in
    left_more g.met.S.Sink.laws spaced_on (print_number k) rest (ap print_number c.from-in-loop-k.ensures) refl c.number-in-loop-k.ensures

pub returns : goal.returns
returns g c = left_end g.met.S.Sink.laws c.loop-k.invariant (ap spaced c.in-None.ensures.steps.0)
