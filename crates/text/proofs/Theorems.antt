-- The statements of specs/Statements.antt. Assumes nothing.
use Rattle.text.specs.Statements.{NumberRead, MembersRead, LinesBack, FieldsBack, FieldsJoined, OneMoreField}
use Rattle.text.proofs.LineLaws.{lines-unlines}
use Rattle.text.proofs.FieldLaws.{split-join, join-split, length-split}
use Rattle.text.proofs.DecimalLaws.{parse_exactly}
use Rattle.text.proofs.MemberListLaws.{parse_members_exactly}

pub number_read : NumberRead
number_read = parse_exactly

pub members-read : MembersRead
members-read = parse_members_exactly

pub lines_back : LinesBack
lines_back = lines-unlines

pub fields_back : FieldsBack
fields_back = split-join

pub fields_joined : FieldsJoined
fields_joined = join-split

pub one_more_field : OneMoreField
one_more_field = length-split
