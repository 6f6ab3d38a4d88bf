use Rattle.obligations.specs.Sets.{members}
use Rattle.text.specs.Members.{print_members}
use Rattle.text.proofs.MemberWriteLaws.{spaced}
use Rattle.text.proofs.SinkLaws.{Left}
use Rattle.text.proofs.members.write_members.Given as goal

abbrev pub invariant-loop-k : goal.invariant-loop-k
invariant-loop-k g l = Left g.S.Sink.room g.S.Sink.takes l.fn.out (print_members l.set) l.out (spaced (members l.k-iterator.rest))
