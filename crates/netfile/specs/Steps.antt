-- What the steps of reading leave: definitions of which only contracts of private functions speak.
use Rattle.std.specs.Prelude.{ℕ, ◌≤◌, ◌≡◌, true, List, Result, Ok, Err, is_ok, IfErr, ⊤, length}
use Rattle.text.specs.Lines.{lines}
use Rattle.net.specs.Refusals.{refusal_number, with_place}
use Rattle.net.specs.Orderly.{ends_ok}
use Rattle.net.specs.Fresh.{fresh_net}
use Rattle.net.specs.declared.Net.{Net}
use Rattle.net.specs.declared.refusal.Refusal.{Refusal}
use Rattle.net.specs.declared.refusal.Refused.{Refused}
use Rattle.netfile.specs.NetFile.{FileReading, row_says, row_gives, read_rows}
use Rattle.netfile.specs.declared.line.SetRow.{SetRow}

-- what line n answers, with its number where it is refused
abbrev pub on_line : {T : Type 0} → ℕ → Result T Refusal → Result T Refused
on_line n (Ok v) = Ok v
on_line n (Err r) = Err (with_place r n)

-- of what is to be read a start and an end were read, and the text of the rows is left, which has at most so many bytes
pub record EndsRead (reading : FileReading) (most start end : ℕ) (rows : List ℕ) : Type 0 where
  pub ends : ends_ok start end ≡ true
  pub short : length rows ≤ most
  pub left : read_rows 4 (fresh_net start end) (lines rows) ≡ reading

-- what was read of a row was put into a net
pub record PutRow (net : Net) (row : Result SetRow Refusal) (r : Result ⊤ Refusal) (net' : Net) : Type 0 where
  pub put : is_ok r ≡ (row_says net row).ok
  pub refusal : IfErr r (λ n. refusal_number n ≡ (row_says net row).refusal)
  pub gives : net' ≡ row_gives net row
