-- One call, said of learn and follow alike, since a follow is the learn of its trace's sequence: it is answered by its sentences, an
-- accepted one gives the net with its sequence's sets, and a refused one gives the net back. Assumes nothing.
use Prim.Native.Nat.{ℕ, ◌+◌, ◌*◌}
use mathlib.Core.Path.{◌≡◌, refl, sym, ap, subst, ◌∙◌}
use mathlib.Core.List.{List}
use mathlib.Core.Logic.{◌↔◌}
use native.Mathlib.Omega.{arith}
use Rattle.obligations.specs.State.{total}
use Rattle.obligations.specs.Sequence.{bindings}
use Rattle.obligations.specs.declared.sequence.Binding.{Binding}
use Rattle.obligations.proofs.SequenceLaws.{bindings-words, held_at}
use Rattle.net.specs.Refusals.{accepted, refused}
use Rattle.net.specs.Sentences.{NoneHolds, AsListed}
use Rattle.net.specs.Sides.{counts_on, net_size}
use Rattle.net.specs.Valid.{Valid}
use Rattle.net.specs.declared.Net.{Net}
use Rattle.net.specs.declared.sides.Side.{Side}
use Rattle.net.specs.declared.sides.Side.TheVariants.{Input, Output}
use Rattle.net.proofs.SentenceLaws.{Told, told-accepted}
use Rattle.sequences.specs.Gain.{occurrences_of, Gains}
use Rattle.sequences.specs.Learn.{learn_refusals, new_sets, learn_says, learn_gives}
use Rattle.sequences.specs.Follow.{followed}
use Rattle.sequences.specs.Statements.{Words, Learnable}
use Rattle.sequences.proofs.FollowLaws.{words-followed}
use Rattle.sequences.proofs.FollowLearnLaws.{follow-is-learn}
use Rattle.sequences.proofs.RefusalLaws.{learn-told, learn-listed, follow_told, follow_listed}
use Rattle.sequences.proofs.Theorems.{none_holds_learnable, learn-accepts, learn-holds, learn-adds_up, learn-valid, refused-same}
use Rattle.promises.specs.Calls.{Call, learn, follow, words_of, sequence_of, learned_words, refusals, says, gives}
use Rattle.promises.proofs.ValidWalkLaws.{SetsAreMasks}

-- ---- the answer

call_told : (net : Net) (call : Call) → Told refused (refusals net call) (accepted (new_sets net (sequence_of call))) (says net call)
call_told net (learn ws) = learn-told net ws
call_told net (follow trace) = follow_told net trace

pub call_listed : (net : Net) (call : Call) → AsListed refused (refusals net call) (says net call)
call_listed net (learn ws) = learn-listed net ws
call_listed net (follow trace) = follow_listed net trace

-- a call of which no refusal holds is accepted with the number of new sets, and no other is
pub call_accepted : (net : Net) (call : Call) → (says net call ≡ accepted (new_sets net (sequence_of call))) ↔ NoneHolds (refusals net call)
call_accepted net call = told-accepted (refusals net call) (new_sets net (sequence_of call)) (call_told net call)

-- ---- the words that a call learns

says-learned : (net : Net) (call : Call) → says net call ≡ learn_says net (learned_words call)
says-learned net (learn ws) = refl
says-learned net (follow trace) = (follow-is-learn net trace).says

gives-learned : (net : Net) (call : Call) → gives net call ≡ learn_gives net (learned_words call)
gives-learned net (learn ws) = refl
gives-learned net (follow trace) = (follow-is-learn net trace).gives

pub bindings-learned : (call : Call) → bindings (learned_words call) ≡ sequence_of call
bindings-learned (learn ws) = refl
bindings-learned (follow trace) = bindings-words (followed trace)

-- a call is accepted exactly if the net could learn its words
pub call_learnable : (net : Net) (call : Call) → ((new : ℕ) × (says net call ≡ accepted new)) ↔ Learnable net (learned_words call)
call_learnable net call =
    let ws = learned_words call in
    let new = new_sets net (bindings ws) in (
      (λ w. ((learn-accepts net ws w.0).0 (sym (says-learned net call) ∙ w.1)).0),
      (λ l. (new, says-learned net call ∙ (told-accepted (learn_refusals net ws) new (learn-told net ws)).1 ((none_holds_learnable net ws).1 l))),
    )

-- ---- an accepted call, and a refused one

module _ (net : Net) (call : Call) (new : ℕ) (e : says net call ≡ accepted new) where
  learned_says : learn_says net (learned_words call) ≡ accepted new
  learned_says = sym (says-learned net call) ∙ e

  pub call_gains : Gains net (sequence_of call) (gives net call)
  call_gains =
      subst (Gains net (sequence_of call)) (sym (gives-learned net call))
      (subst (λ (s : List Binding). Gains net s (learn_gives net (learned_words call))) (bindings-learned call) (learn-holds net (learned_words call) new learned_says))

  -- by as many sets as are said to be new
  pub call_grows : net_size (gives net call) ≡ net_size net + new
  call_grows = ap net_size (gives-learned net call) ∙ ((learn-accepts net (learned_words call) new).0 learned_says).1

  -- the counts of a side add up to so many more as its activity occurs
  pub call_adds_up : (side : Side) (a : ℕ) → total (counts_on (gives net call) side a) ≡ total (counts_on net side a) + occurrences_of (sequence_of call) a
  call_adds_up side a =
      subst (λ (n : Net). total (counts_on n side a) ≡ total (counts_on net side a) + occurrences_of (sequence_of call) a) (sym (gives-learned net call))
      (subst (λ (s : List Binding). total (counts_on (learn_gives net (learned_words call)) side a) ≡ total (counts_on net side a) + occurrences_of s a) (bindings-learned call) (learn-adds_up net (learned_words call) new learned_says side a))

  pub call_valid : Valid (gives net call) (sequence_of call)
  call_valid =
      subst (λ (n : Net). Valid n (sequence_of call)) (sym (gives-learned net call))
      (subst (Valid (learn_gives net (learned_words call))) (bindings-learned call) (learn-valid net (learned_words call) new learned_says))

pub call_stays : (net : Net) (call : Call) (n p : ℕ) → says net call ≡ refused n p → gives net call ≡ net
call_stays net (learn ws) n p e = (refused-same net ws n p).0 e
call_stays net (follow trace) n p e = (refused-same net trace n p).1 e

-- ---- the sets of a call's sequence, where its words have 32 bits

words-learned : (call : Call) → Words (words_of call) → Words (learned_words call)
words-learned (learn ws) w = w
words-learned (follow trace) w = words-followed 0 trace (omega arith) w

words-masks : (ws : List ℕ) → Words ws → SetsAreMasks (bindings ws)
words-masks ws w Input i h = rw (held_at ws i h).input_held (w (3 * i + 1))
words-masks ws w Output i h = rw (held_at ws i h).output_held (w (3 * i + 2))

pub call_masks : (call : Call) → Words (words_of call) → SetsAreMasks (sequence_of call)
call_masks call w = subst SetsAreMasks (bindings-learned call) (words-masks (learned_words call) (words-learned call w))
