use Rattle.std.proofs.Common.{◌≡◌}
use Rattle.text.specs.Members.{parse_members}
use Rattle.text.specs.Reading.{fields_left}
use Rattle.text.proofs.MemberListLaws.{read_fields}
use Rattle.text.proofs.members.read_members.Given as goal

abbrev pub invariant-loop-field : goal.invariant-loop-field
invariant-loop-field l = parse_members l.list ≡ read_fields l.low l.set (fields_left l.field-iterator)
