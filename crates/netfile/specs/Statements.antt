-- What is proved of the definitions. The proofs are in proofs/Theorems.antt.
use Rattle.std.specs.Prelude.{ℕ, ◌≤◌, ◌<◌, ◌≡◌, ◌⊎◌, ◌↔◌, length, take, Ok}
use mathlib.Core.List.{List, ◌∷◌, Memᴰ}
use Rattle.obligations.specs.Limits.{activities}
use Rattle.text.specs.Lines.{lines}
use Rattle.net.specs.Limits.{sets}
use Rattle.net.specs.Refusals.{accepted, refused}
use Rattle.net.specs.Sentences.{NoneHolds, AsListed, AsListedByLine}
use Rattle.net.specs.Lists.{AtMost}
use Rattle.net.specs.Sides.{sides_of, empty_at, uncounted, SameButCounts, OnSide, Masks}
use Rattle.net.specs.Orderly.{Orderly}
use Rattle.net.specs.Fresh.{fresh_net}
use Rattle.net.specs.Put.{side_says}
use Rattle.net.specs.declared.Net.{Net}
use Rattle.net.specs.declared.sides.Side.{Side}
use Rattle.net.specs.declared.sides.Side.TheVariants.{Input, Output}
use Rattle.netfile.specs.Limits.{net_bytes}
use Rattle.netfile.specs.NetFile.{net_header, start_word, end_word, row_of_set, read_end, read_set_row, row_says, read_as, read_net, end_text, net_text, write_refusals, write_says, write_gives}
use Rattle.netfile.specs.Refusals.{IsEnd, IsSetRow, net_refusals}

-- ---- the refusals: each call is refused exactly as its sentences are listed, and else accepted

abbrev pub NetListed : Type 0
NetListed = (text : List ℕ) → AsListedByLine refused (net_refusals text) (read_net text).says

abbrev pub WriteListed : Type 0
WriteListed = (net : Net) (room : ℕ) → AsListed refused (write_refusals net room) (write_says net room)

-- the writer is accepted exactly if no refusal holds, with the text's length
abbrev pub WriteSaid : Type 0
WriteSaid =
    (net : Net) (room n : ℕ) → (write_says net room ≡ accepted n) ↔ (NoneHolds (write_refusals net room) × (n ≡ length (net_text net)))

-- a refused reading returns the fresh net of 0 and 1
abbrev pub RefusedFresh : Type 0
RefusedFresh = (text : List ℕ) (number line : ℕ) → (read_net text).says ≡ refused number line → (read_net text).net ≡ fresh_net 0 1

-- ---- what is read

-- what is read as a start row, an end row or a set's row is the text that is written for it, and no other
abbrev pub LinesRead : Type 0
LinesRead =
    (line : List ℕ)
    → ((a : ℕ) → (read_end start_word line ≡ Ok a) ↔ IsEnd start_word a line)
    × ((a : ℕ) → (read_end end_word line ≡ Ok a) ↔ IsEnd end_word a line)
    × ((side : Side) (a m : ℕ) → (read_set_row line ≡ Ok (row_of_set side a m)) ↔ IsSetRow side a m line)

-- one of the lines is the row of m on activity a's side
pub record HasRow (ls : List (List ℕ)) (side : Side) (a m : ℕ) : Type 0 where
  pub line : List ℕ
  pub there : Memᴰ line ls
  pub is_row : IsSetRow side a m line

-- a net file as it has to be
pub record Readable (text : List ℕ) : Type 0 where
  pub within : length text ≤ net_bytes
  pub start : ℕ
  pub end : ℕ
  pub rows : List (List ℕ)
  pub are_lines : lines text ≡ net_header ∷ end_text start_word start ∷ end_text end_word end ∷ rows
  pub start_activity : start < activities
  pub end_activity : end < activities
  pub differ : start ≡ end → ⊥
  pub all_rows : (line : List ℕ) → Memᴰ line rows → (side : Side) × (a : ℕ) × (m : ℕ) × IsSetRow side a m line
  pub no_start_input : (m : ℕ) → HasRow rows Input start m → ⊥
  pub no_end_output : (m : ℕ) → HasRow rows Output end m → ⊥
  pub at_most : (side : Side) (a : ℕ) → AtMost sets (HasRow rows side a)

abbrev pub NetAccepted : Type 0
NetAccepted = (text : List ℕ) → ((read_net text).says ≡ accepted 0) ↔ Readable text

-- a net is what the lines of a text say: its start and its end are those of the second and the third line, and a side holds
-- exactly the sets of its rows, but for the two sides that hold the empty set
pub record SaidBy (text : List ℕ) (net : Net) : Type 0 where
  pub rows : List (List ℕ)
  pub are_lines : lines text ≡ net_header ∷ end_text start_word net.start ∷ end_text end_word net.end ∷ rows
  pub sets_read : (side : Side) (a m : ℕ) → OnSide net side a m ↔ (((a ≡ empty_at net side) × (m ≡ 0)) ⊎ HasRow rows side a m)

abbrev pub ReadSaid : Type 0
ReadSaid = (text : List ℕ) → (read_net text).says ≡ accepted 0 → SaidBy text (read_net text).net

-- two texts within the limit have the same first three lines, and each further line of one is one of the other: in any order,
-- and any number of times
pub record SameRows (text other : List ℕ) : Type 0 where
  pub within : length text ≤ net_bytes
  pub other_within : length other ≤ net_bytes
  pub header_line : List ℕ
  pub start_line : List ℕ
  pub end_line : List ℕ
  pub rows : List (List ℕ)
  pub other_rows : List (List ℕ)
  pub are_lines : lines text ≡ header_line ∷ start_line ∷ end_line ∷ rows
  pub are_other_lines : lines other ≡ header_line ∷ start_line ∷ end_line ∷ other_rows
  pub same : (line : List ℕ) → Memᴰ line rows ↔ Memᴰ line other_rows

-- both are accepted or both are refused, and the nets are equal, word for word
abbrev pub SameRowsSameNet : Type 0
SameRowsSameNet =
    (text other : List ℕ) → SameRows text other → (((read_net text).says ≡ accepted 0) ↔ ((read_net other).says ≡ accepted 0)) × ((read_net text).net ≡ (read_net other).net)

-- whatever is read is orderly
abbrev pub ReadOrderly : Type 0
ReadOrderly = (text : List ℕ) → Orderly (read_net text).net

-- and has counts 0 (02, (viii))
abbrev pub ReadUncounted : Type 0
ReadUncounted = (text : List ℕ) → uncounted (read_net text).net ≡ (read_net text).net

-- of a row that is read only 5 and 12 are left to say, which are its side's to say
abbrev pub RowSaysSide : Type 0
RowSaysSide =
    (net : Net) (line : List ℕ) (side : Side) (a m : ℕ) → Orderly net → IsSetRow side a m line
    → row_says net (read_set_row line) ≡ side_says (sides_of net side) (empty_at net side) a m

-- ---- what is written is read again

-- what the writer writes of an orderly net is read as that net with counts 0, word for word (02, (viii)): as the net itself, if
-- its counts are 0
abbrev pub RoundTrip : Type 0
RoundTrip = (net : Net) → Orderly net → Masks net → read_net (net_text net) ≡ read_as (uncounted net)

abbrev pub RoundTripSame : Type 0
RoundTripSame = (net : Net) → Orderly net → Masks net → uncounted net ≡ net → read_net (net_text net) ≡ read_as net

-- the two calls one after the other: the bytes of the buffer up to the length that the writer answered are read as the net written,
-- with counts 0
abbrev pub WrittenRead : Type 0
WrittenRead =
    (net : Net) (buf : List ℕ) (n : ℕ) → Masks net → write_says net (length buf) ≡ accepted n
    → read_net (take n (write_gives net buf)) ≡ read_as (uncounted net)

-- the writer says the same of both nets and leaves the same text in whatever buffer it is lent, byte for byte
abbrev pub SameText : Net → Net → Type 0
SameText net other = (buf : List ℕ) → (write_says net (length buf) ≡ write_says other (length buf)) × (write_gives net buf ≡ write_gives other buf)

-- it passes over the counts of orderly records
abbrev pub WritePassesOver : Type 0
WritePassesOver = (net other : Net) → Orderly net → Orderly other → SameButCounts net other → SameText net other

-- what was read and accepted, written and read again, is the same
abbrev pub ReadAgain : Type 0
ReadAgain = (text : List ℕ) → (read_net text).says ≡ accepted 0 → read_net (net_text (read_net text).net) ≡ read_net text
