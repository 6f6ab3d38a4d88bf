-- What the two iterators of `text` have left: fields of a line, and lines of a text.
use Rattle.std.specs.Prelude.{ℕ, List, [], Some, None, Option}
use denote.Ref.{Bor}
use Rattle.text.specs.Fields.{split}
use Rattle.text.specs.Lines.{lines}
use Rattle.text.specs.declared.fields.Fields.{Fields}
use Rattle.text.specs.declared.lines.Lines.{Lines}

abbrev pub fields_of : ℕ → Option (Bor (List ℕ)) → List (List ℕ)
fields_of c None = []
fields_of c (Some s) = split c s.now

abbrev pub fields_left : Fields → List (List ℕ)
fields_left f = fields_of f.separator f.rest

abbrev pub lines_left : Lines → List (List ℕ)
lines_left l = lines l.rest.now
