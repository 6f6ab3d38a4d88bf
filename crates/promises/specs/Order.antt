-- 02, (ix): the order of learning is immaterial. Lists of learning calls are run from one net. Whether every call of a list is accepted,
-- and which net the list then grows, depends on which sequences it has and how often, and not on their order.
use Rattle.std.specs.Prelude.{ℕ, ◌<◌, ◌≡◌, Ok, ◌↔◌, eqb, count_by}
use Rattle.std.specs.Cmp.Lexicographic.{pointwise}
use mathlib.Core.List.{List, map, Memᴰ}
use Rattle.obligations.specs.declared.sequence.Binding.{Binding}
use Rattle.net.specs.Refusals.{Says}
use Rattle.net.specs.Sides.{SameButCounts}
use Rattle.net.specs.Orderly.{Orderly}
use Rattle.net.specs.Fresh.{fresh_gives}
use Rattle.net.specs.declared.Net.{Net}
use Rattle.sequences.specs.Gain.{Gains, Fits, Countable}
use Rattle.sequences.specs.Learn.{learn_means}
use Rattle.sequences.specs.Statements.{Learnable}
use Rattle.netfile.specs.Statements.{SameText}
use Rattle.promises.specs.Calls.{Call, sequence_of, learned_words, together, grown, answers}

-- every call of a list is accepted; the first is given the net
abbrev pub AllAccepted : Net → List Call → Type 0
AllAccepted net calls = (said : Says) → Memᴰ said (answers net calls) → (new : ℕ) × (said ≡ learn_means (Ok new))

-- how many calls of a list learn the sequence with these words. (Two sequences are the same if their words are.)
unfoldable pub times : List ℕ → List Call → ℕ
times ws calls = count_by (λ call. pointwise eqb (learned_words call) ws) calls

-- each sequence occurs as often in one list as in the other
abbrev pub AsOften : List Call → List Call → Type 0
AsOften calls calls' = (ws : List ℕ) → times ws calls ≡ times ws calls'

-- the positions of all sequences of a list, in the order of the calls
abbrev pub positions_of : List Call → List Binding
positions_of calls = together (map sequence_of calls)

-- ---- which lists are accepted

-- the net could learn each of the sequences alone, and with all of them no side would exceed 16 sets and no count its top: so 12
-- depends on the union of their sets, and 21 on the sum of their uses
pub record LearnableTogether (net : Net) (calls : List Call) : Type 0 where
  pub each_alone : (call : Call) → Memᴰ call calls → Learnable net (learned_words call)
  pub fitting : Fits net (positions_of calls)
  pub counting : Countable net (positions_of calls)

-- exactly then every call is accepted, on an orderly net. (A list without a call is accepted on any.)
abbrev pub AcceptedExactly : Type 0
AcceptedExactly = (net : Net) (calls : List Call) → Orderly net → AllAccepted net calls ↔ LearnableTogether net calls

-- and the net then gains exactly the sets of all sequences, with all their uses
abbrev pub GainsTogether : Type 0
GainsTogether = (net : Net) (calls : List Call) → Orderly net → AllAccepted net calls → Gains net (positions_of calls) (grown net calls)

-- ---- the order

-- what is promised of two lists in which each sequence occurs as often, where every call of the first is accepted: so is every call of
-- the second; the grown nets are the same record, counts included; and the texts written of them are the same
pub record SameGrown (net : Net) (calls calls' : List Call) : Type 0 where
  pub accepted_too : AllAccepted net calls'
  pub same_net : grown net calls ≡ grown net calls'
  pub same_text : SameText (grown net calls) (grown net calls')

-- from whatever net both begin
abbrev pub OrderImmaterial : Type 0
OrderImmaterial = (net : Net) (calls calls' : List Call) → AllAccepted net calls → AsOften calls calls' → SameGrown net calls calls'

-- "For two lists of learning calls from fresh nets of one start and end, in which every call is accepted and each sequence occurs as
-- often in one as in the other, the two nets are equal, counts included." (That every call of the second is accepted follows; it stands
-- here as the paper says it. A refused fresh returns a fresh net too.)
abbrev pub FreshOrderImmaterial : Type 0
FreshOrderImmaterial =
    (start end : ℕ) (calls calls' : List Call)
    → AllAccepted (fresh_gives start end) calls → AllAccepted (fresh_gives start end) calls' → AsOften calls calls'
    → grown (fresh_gives start end) calls ≡ grown (fresh_gives start end) calls'

-- ---- how often

-- the same sequences occur in both lists, in one perhaps more often than in the other
abbrev pub SameSequences : List Call → List Call → Type 0
SameSequences calls calls' = (ws : List ℕ) → (0 < times ws calls) ↔ (0 < times ws calls')

-- beyond (ix): then the nets differ in their counts at most, and as a net's text has no counts, the texts are the same
abbrev pub OnlyCountsDiffer : Type 0
OnlyCountsDiffer =
    (net : Net) (calls calls' : List Call) → AllAccepted net calls → AllAccepted net calls' → SameSequences calls calls'
    → SameButCounts (grown net calls) (grown net calls') × SameText (grown net calls) (grown net calls')
