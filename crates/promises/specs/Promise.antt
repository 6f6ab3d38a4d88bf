-- Demand 3 (01, "Learning and containment"; 02, (viii)): one promise of every list of learning calls. The proof is in
-- proofs/Theorems.antt.
use Rattle.std.specs.Prelude.{ℕ, ◌+◌, ◌≡◌, true, Ok, ◌↔◌}
use mathlib.Core.List.{List, [], ◌∷◌, ◌++◌, Memᴰ}
use Rattle.obligations.specs.State.{total}
use Rattle.obligations.specs.declared.sequence.Binding.{Binding}
use Rattle.net.specs.Refusals.{Says, refused}
use Rattle.net.specs.Sentences.{NoneHolds, IsGiven, AsListed}
use Rattle.net.specs.Sides.{counts_on, count_of, net_size}
use Rattle.net.specs.Fresh.{fresh_means, fresh_says, fresh_gives}
use Rattle.net.specs.Contained.{contained_means, contained_says}
use Rattle.net.specs.Valid.{Valid}
use Rattle.net.specs.declared.Net.{Net}
use Rattle.net.specs.declared.sides.Side.{Side}
use Rattle.walks.specs.Arcs.{arcs}
use Rattle.walks.specs.Walk.{Passes}
use Rattle.walks.specs.Check.{check_means, check_says}
use Rattle.sequences.specs.Gain.{uses, occurrences_of, Gains}
use Rattle.sequences.specs.Learn.{learn_means}
use Rattle.search.specs.Statements.{NoChoice}
use Rattle.promises.specs.Calls.{Call, sequence_of, together, refusals, says, gives, grown, answers, AllWords}
use Rattle.promises.specs.Replays.{SaysFound, SaysNone, ReplayNotRefused, EndsWithin}

-- one call, given the net so far: it is refused exactly as the papers list it, and else accepted, with the growth of the net's own
-- lists as the number of new sets; an accepted call returns the net with exactly its sequence's sets more and their uses counted,
-- and a refused one the net so far
pub record Called (net : Net) (call : Call) : Type 0 where
  pub as_listed : AsListed refused (refusals net call) (says net call)
  pub accepted_exactly : (new : ℕ) → (says net call ≡ learn_means (Ok new)) ↔ (NoneHolds (refusals net call) × (net_size (gives net call) ≡ net_size net + new))
  pub gains : NoneHolds (refusals net call) → Gains net (sequence_of call) (gives net call)
  pub stays : (number place : ℕ) → IsGiven (refusals net call) number place → gives net call ≡ net

-- a list of calls run from a net as the papers list it: what each says, the sequences of those accepted, and the last net
pub data Runs : Net → List Call → List Says → List (List Binding) → Net → Type 0 where
  none_left : {net : Net} → Runs net [] [] [] net
  accepts : {net after last : Net} {call : Call} {calls : List Call} {new : ℕ} {said : List Says} {ss : List (List Binding)}
      → NoneHolds (refusals net call) → Gains net (sequence_of call) after → net_size after ≡ net_size net + new
      → Runs after calls said ss last → Runs net (call ∷ calls) (learn_means (Ok new) ∷ said) (sequence_of call ∷ ss) last
  refuses : {net last : Net} {call : Call} {calls : List Call} {number place : ℕ} {said : List Says} {ss : List (List Binding)}
      → IsGiven (refusals net call) number place
      → Runs net calls said ss last → Runs net (call ∷ calls) (refused number place ∷ said) ss last

-- what is promised of a list of calls, the first of which is given the net `first`
pub record Promise (first : Net) (calls : List Call) : Type 0 where
  -- 1. the whole list runs as the papers list it, which gives the sequences of the calls that were accepted; and each of its
  -- calls is accepted or refused exactly so, given the net so far, which then gains or stays
  pub learned : List (List Binding)
  pub runs : Runs first calls (answers first calls) learned (grown first calls)
  pub each_call : (before after : List Call) (call : Call) → calls ≡ before ++ (call ∷ after) → Called (grown first before) call
  -- 2. if any was accepted, the grown net passes the net check. (Each word has 32 bits, as in a program: a greater one could be a
  -- set that isn't empty and has no member.)
  pub grown_passes : AllWords calls → (s : List Binding) → Memᴰ s learned → Passes (grown first calls) × (check_says (grown first calls) ≡ check_means (Ok (arcs (grown first calls))))
  -- 3. in a net that passes with the same start and end, the grown net is contained exactly when every sequence accepted is valid
  pub contained_exactly : (other : Net) (n : ℕ) → check_says other ≡ check_means (Ok n) → other.start ≡ first.start → other.end ≡ first.end
      → (contained_says (grown first calls) other ≡ contained_means (Ok true)) ↔ ((s : List Binding) → Memᴰ s learned → Valid other s)
  -- 4. where it is contained, no trace found in it is none there, whatever the two budgets and buffers are
  pub found_never_none : (other : Net) → contained_says (grown first calls) other ≡ contained_means (Ok true)
      → (trace : List ℕ) (budget budget' : ℕ) (out out' : List ℕ) → SaysFound (grown first calls) trace budget out → SaysNone other trace budget' out' → ⊥
  -- 5. in every net, whatever the trace, the budget and the buffer are, a replay that isn't refused says none exactly when its
  -- search ends within the budget and no choice of the net's bindings makes the trace valid. (In a net that doesn't pass it is
  -- refused.)
  pub none_exactly : (net : Net) (trace : List ℕ) (budget : ℕ) (out : List ℕ) → ReplayNotRefused net trace budget out
      → SaysNone net trace budget out ↔ (EndsWithin net trace budget × NoChoice net trace)
  -- 6. each set's count is the number of positions of the sequences accepted that use it, and an activity's input counts and its
  -- output counts each add up to its occurrences in them (02, (viii))
  pub counted : (side : Side) (a m : ℕ) → count_of (grown first calls) side a m ≡ uses side (together learned) a m
  pub counts_add_up : (side : Side) (a : ℕ) → total (counts_on (grown first calls) side a) ≡ occurrences_of (together learned) a

-- demand 3: for every start and end that fresh accepts and every list of calls, starting from the net that fresh returns
abbrev pub Promised : Type 0
Promised = (start end : ℕ) → fresh_says start end ≡ fresh_means (Ok tt) → (calls : List Call) → Promise (fresh_gives start end) calls
