-- The sequence of a trace: its positions one by one, that it is well-formed where start and end stand as they have to, and
-- that following is learning it. Each position takes the one obligation that the one before it handed on. Assumes nothing.
use Prim.Native.Nat.{ℕ, zero, suc, ◌+◌, ◌*◌, ◌^◌, ◌≤◌, ◌<◌}
use mathlib.Core.Path.{◌≡◌, refl, ap, ◌∙◌}
use mathlib.Core.Bool.{true, false}
use mathlib.Core.List.{List, [], ◌∷◌}
use mathlib.Core.Logic.{⊎_elim}
use native.Mathlib.Numerals.{add-one, add-three}
use native.Mathlib.Omega.{arith}
use borrow.Author.Tests.{lt-ltb, le-ltb}
use lib.ListN.{length, get_or, take, drop, drop_of_length-le}
use lib.Seq.{drop-cons, sets, sets-eq, take_at}
use Rattle.obligations.specs.Sets.{single}
use Rattle.obligations.specs.State.{nothing, added}
use Rattle.obligations.specs.Sequence.{bindings, words, at, completes}
use Rattle.obligations.specs.declared.sequence.Binding.{Binding}
use Rattle.obligations.proofs.BoolLaws.{and_both}
use Rattle.obligations.proofs.SetLaws.{single_lt, lt_or_le}
use Rattle.obligations.proofs.StateLaws.{after-added, possible_none, taken_none, added_none, handed_possible, handed_taken, nothing-zero}
use Rattle.obligations.proofs.SequenceLaws.{bindings-words, words_nil, words_cons, length-words, completes_nil, completes_cons}
use Rattle.obligations.specs.Trace.{shaped}
use Rattle.obligations.proofs.TraceLaws.{shaped_ext}
use Rattle.net.specs.Refusals.{refused}
use Rattle.net.specs.declared.Net.{Net}
use Rattle.sequences.specs.Statements.{Words}
use Rattle.sequences.specs.Learn.{gain_says}
use Rattle.sequences.specs.Follow.{followed_from, followed, follow_positions}
use Rattle.sequences.specs.Inner.{WithinLimits, TraceWithinLimits, next_set}

-- ---- position by position

-- the rest of the trace from i on, and its first position
pub followed-step : (x : ℕ) (t : List ℕ) (i : ℕ) → i < length t
    → followed_from x (drop i t) ≡ record { activity = get_or t i 0; input = x; output = next_set t i } ∷ followed_from (single (get_or t i 0)) (drop (i + 1) t)
unfolding followed_from next_set
followed-step x t i h = ⊎_elim more last (lt_or_le (i + 1) (length t))
  where
    more : i + 1 < length t → followed_from x (drop i t) ≡ record { activity = get_or t i 0; input = x; output = next_set t i } ∷ followed_from (single (get_or t i 0)) (drop (i + 1) t)
    more l =
        let e : drop (i + 1) t ≡ get_or t (i + 1) 0 ∷ drop (suc (i + 1)) t = drop-cons t (i + 1) 0 l in
        let d : drop i t ≡ get_or t i 0 ∷ drop (i + 1) t = rw (add-one i) (drop-cons t i 0 h) in
        rw (d, lt-ltb (i + 1) (length t) l, e)

    last : length t ≤ i + 1 → followed_from x (drop i t) ≡ record { activity = get_or t i 0; input = x; output = next_set t i } ∷ followed_from (single (get_or t i 0)) (drop (i + 1) t)
    last l =
        let e : drop (i + 1) t ≡ [] = drop_of_length-le t {i = i + 1} l in
        let d : drop i t ≡ get_or t i 0 ∷ drop (i + 1) t = rw (add-one i) (drop-cons t i 0 h) in
        rw (d, le-ltb (i + 1) (length t) l, e)

pub length-followed : (x : ℕ) (t : List ℕ) → length (followed_from x t) ≡ length t
unfolding followed_from
length-followed x [] = refl
length-followed x (a ∷ []) = refl
length-followed x (a ∷ b ∷ t) = ap suc (length-followed (single a) (b ∷ t))

pub followed-activity : (x : ℕ) (t : List ℕ) (i : ℕ) → i < length t → (at (followed_from x t) i).activity ≡ get_or t i 0
unfolding followed_from
followed-activity x [] i h = absurd (omega arith)
followed-activity x (a ∷ []) zero h = refl
followed-activity x (a ∷ []) (suc i) h = absurd (omega arith)
followed-activity x (a ∷ b ∷ t) zero h = refl
followed-activity x (a ∷ b ∷ t) (suc i) h = followed-activity (single a) (b ∷ t) i (omega arith)

-- ---- the words written

pub write_step : (buf : List ℕ) (place x : ℕ) (t : List ℕ) (i : ℕ) → i < length t
    → sets buf place (words (followed_from x (drop i t)))
    ≡ sets (sets buf place (words (record { activity = get_or t i 0; input = x; output = next_set t i } ∷ []))) (place + 3) (words (followed_from (single (get_or t i 0)) (drop (i + 1) t)))
unfolding words
write_step buf place x t i h = rw (followed-step x t i h, add-three place) refl

-- the front of the buffer holds the sequence's words
pub front_words : (buf : List ℕ) (s : List Binding) (n : ℕ) → length s ≡ n → 3 * n ≤ length buf → take (3 * n) (sets buf 0 (words s)) ≡ words s
front_words buf s n e h =
    let l : length (words s) ≡ 3 * n = length-words s ∙ ap (λ (k : ℕ). 3 * k) e in
    ap (take (3 * n)) (sets-eq (words s) buf 0 (omega arith)) ∙ take_at (words s) (drop (0 + length (words s)) buf) (3 * n) l

pub followed-within : (t : List ℕ) → TraceWithinLimits t → WithinLimits (words (followed t))
followed-within t p =
    let e : bindings (words (followed t)) ≡ followed t = bindings-words (followed t) in
    let n : length (bindings (words (followed t))) ≡ length t = ap length e ∙ length-followed 0 t in
    record {
      whole = omega (arith, length-words (followed t), length-followed 0 t, n);
      few = omega (arith, n, p.few);
      activities_only = λ i h.
          let l : i < length t = omega (arith, n) in
          rw (e, followed-activity 0 t i l) (p.activities_only i l);
    }

-- ---- each hands one obligation to the next

-- activities below 32
Below : List ℕ → Type 0
Below [] = Unit {0}
Below (a ∷ t) = (a < 32) × Below t

handed : (a b : ℕ) (t : List ℕ) → a < 32 → b < 32 → Below t → completes (added nothing a (single b)) (followed_from (single a) (b ∷ t)) ≡ true
unfolding followed_from Below
handed a b [] ha hb w = rw (completes_cons, completes_nil, after-added) (and_both (handed_possible nothing a b refl ha hb) (rw (handed_taken nothing a b ha hb, added_none nothing b) nothing-zero))
handed a b (c ∷ t) ha hb w = rw (completes_cons, after-added) (and_both (handed_possible nothing a b refl ha hb) (rw (handed_taken nothing a b ha hb) (handed b c t hb w.0 w.1)))

from_first : (t : List ℕ) → Below t → 0 < length t → completes nothing (followed_from 0 t) ≡ true
unfolding followed_from Below
from_first [] w h = absurd (omega arith)
from_first (a ∷ []) w h = rw (completes_cons, completes_nil, after-added) (and_both (possible_none nothing a) (rw (taken_none nothing a, added_none nothing a) nothing-zero))
from_first (a ∷ b ∷ t) w h = rw (completes_cons, after-added) (and_both (possible_none nothing a) (rw (taken_none nothing a) (handed a b t w.0 w.1.0 w.1.1)))

below_all : (t : List ℕ) → ((i : ℕ) → i < length t → get_or t i 0 < 32) → Below t
unfolding Below
below_all [] h = tt
below_all (a ∷ t) h = (h 0 (omega arith), below_all t (λ i l. h (suc i) (omega arith)))

pub followed-completes : (t : List ℕ) → ((i : ℕ) → i < length t → get_or t i 0 < 32) → 0 < length t → completes nothing (followed t) ≡ true
followed-completes t h l = from_first t (below_all t h) l

-- the code's test of the shape on the trace's words
pub shaped-trace : (start end : ℕ) (t : List ℕ) → shaped start end (length t) (λ i. get_or t i 0) ≡ shaped start end (length t) (λ i. get_or t (1 * i) 0)
shaped-trace start end t = shaped_ext start end (length t) (λ i. get_or t i 0) (λ i. get_or t (1 * i) 0) (λ i l. ap (λ (k : ℕ). get_or t k 0) (omega arith))

-- ---- the chain of follow's refusals up to 7

module _ (net : Net) (t : List ℕ) where
  pub follow_ends : shaped net.start net.end (length t) (λ i. get_or t i 0) ≡ false → refused 7 0 ≡ follow_positions net t
  unfolding follow_positions
  follow_ends f = rw f

  pub follow_gains : shaped net.start net.end (length t) (λ i. get_or t i 0) ≡ true → gain_says net (followed t) ≡ follow_positions net t
  unfolding follow_positions
  follow_gains h = rw h

-- ---- where each word of a trace has 32 bits, each word of its sequence has

pub words-followed : (x : ℕ) (trace : List ℕ) → x < 2 ^ 32 → Words trace → Words (words (followed_from x trace))
unfolding followed_from
words-followed x [] h w i = rw words_nil (omega arith)
words-followed x (a ∷ []) h w zero = rw words_cons (w 0)
words-followed x (a ∷ []) h w (suc zero) = rw words_cons h
words-followed x (a ∷ []) h w (suc (suc zero)) = rw words_cons (omega arith)
words-followed x (a ∷ []) h w (suc (suc (suc i))) = rw (words_cons, words_nil) (omega arith)
words-followed x (a ∷ b ∷ trace) h w zero = rw words_cons (w 0)
words-followed x (a ∷ b ∷ trace) h w (suc zero) = rw words_cons h
words-followed x (a ∷ b ∷ trace) h w (suc (suc zero)) = rw words_cons (single_lt b)
words-followed x (a ∷ b ∷ trace) h w (suc (suc (suc i))) = rw words_cons (words-followed (single a) (b ∷ trace) (single_lt a) (λ j. w (suc j)) i)
