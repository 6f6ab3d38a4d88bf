-- Lists of learning calls (01, "Learning and containment"): each is a learn of words or a follow of a trace, and gets the net
-- that the call before it returned.
use Rattle.std.specs.Prelude.{ℕ}
use mathlib.Core.List.{List, [], ◌∷◌, ◌++◌, Memᴰ}
use Rattle.obligations.specs.Sequence.{bindings, words}
use Rattle.obligations.specs.declared.sequence.Binding.{Binding}
use Rattle.net.specs.Refusals.{Says}
use Rattle.net.specs.Sentences.{Sentence}
use Rattle.net.specs.declared.Net.{Net}
use Rattle.sequences.specs.Learn.{learn_refusals, learn_says, learn_gives}
use Rattle.sequences.specs.Follow.{followed, follow_refusals, follow_says, follow_gives}
use Rattle.sequences.specs.Statements.{Words}

pub data Call : Type 0 where
  learn : List ℕ → Call
  follow : List ℕ → Call

-- the words that a call is given, and the sequence of a call: a follow's is the one that it makes from its trace
abbrev pub words_of : Call → List ℕ
words_of (learn ws) = ws
words_of (follow trace) = trace

abbrev pub sequence_of : Call → List Binding
sequence_of (learn ws) = bindings ws
sequence_of (follow trace) = followed trace

-- the words that a call learns: a learn's are those given, of which one or two at the end may make no position; a follow's are those
-- of its sequence
abbrev pub learned_words : Call → List ℕ
learned_words (learn ws) = ws
learned_words (follow trace) = words (followed trace)

-- the positions of several sequences, in the order of the sequences
unfoldable pub together : List (List Binding) → List Binding
together [] = []
together (s ∷ ss) = s ++ together ss

-- the refusals that the papers list for a call, given a net
abbrev pub refusals : Net → Call → List Sentence
refusals net (learn ws) = learn_refusals net ws
refusals net (follow trace) = follow_refusals net trace

-- what a call says and the net that it returns, given a net: the definitions that the contracts of learn and follow cite
abbrev pub says : Net → Call → Says
says net (learn ws) = learn_says net ws
says net (follow trace) = follow_says net trace

abbrev pub gives : Net → Call → Net
gives net (learn ws) = learn_gives net ws
gives net (follow trace) = follow_gives net trace

-- ---- a list of calls, the first of which is given the net

-- the net that the last call returns
unfoldable pub grown : Net → List Call → Net
grown net [] = net
grown net (call ∷ calls) = grown (gives net call) calls

-- what each call says
unfoldable pub answers : Net → List Call → List Says
answers net [] = []
answers net (call ∷ calls) = says net call ∷ answers (gives net call) calls

-- every word of every call is of 32 bits, as every word in a program is
abbrev pub AllWords : List Call → Type 0
AllWords calls = (call : Call) → Memᴰ call calls → Words (words_of call)
