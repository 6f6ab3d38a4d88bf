-- What a writer asks of its buffer and leaves in it.
use Rattle.std.specs.Prelude.{ℕ, ◌+◌, ◌≤◌, ◌≡◌, List, length}
use Rattle.text.specs.Inner.{Wrote}
use Rattle.text.specs.declared.out.Out.{Out}

-- there is room for a text behind what is written
abbrev pub Room : Out → List ℕ → Type 0
Room o text = o.len + length text ≤ length o.buf.now

-- a text was written behind what was written, in the same buffer, and nothing else
pub record Appends (o : Out) (text : List ℕ) (o' : Out) : Type 0 where
  pub same_buffer : o'.buf.ghost_name ≡ o.buf.ghost_name
  pub wrote : Wrote o.buf.now o.len text o'.buf.now o'.len
