-- `members_width` meets its contract: a word can count the bytes of a member list. Assumes nothing.
use Rattle.std.proofs.Common.{arith}
use Rattle.text.proofs.MemberListLaws.{members_short}
use Rattle.text.proofs.members.members_width.Goals as goal

pub write_members-requires : goal.write_members-requires
write_members-requires c = omega (arith, members_short c.args.set)
