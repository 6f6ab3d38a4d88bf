-- Laws of sequences: words and bindings, the state after one position more, how far its counts can grow, and the tests of
-- `possible` and of the last state said of every position. Assumes nothing.
use Rattle.std.proofs.Common.{ℕ, zero, suc, ◌+◌, ◌-◌, ◌*◌, ◌≤◌, ◌<◌, ◌≡◌, refl, sym, ap, subst, ⊎_elim, ◌↔◌, true, ◌&&◌, List, [], ◌∷◌, ◌++◌, add-one, arith, length, get_or, take, drop, take-suc}
use lib.Seq.{take-length}
use Rattle.obligations.specs.Limits.{positions}
use Rattle.obligations.specs.Tests.{first_failing}
use Rattle.obligations.specs.State.{nothing, possible, after, all_zero, State, most_due}
use Rattle.obligations.specs.Sequence.{Binding, bindings, words, at, run, ψ, Possible, NothingLeft, possible_at, first_impossible, completes}
use Rattle.obligations.proofs.BoolLaws.{and_left, and_right, and_both, true_or_false, false-not-true}
use Rattle.obligations.proofs.StateLaws.{after_state, nothing_state, state_le}
use Rattle.obligations.specs.Statements.{EachPossible, ImpossibleAfter}
use Rattle.obligations.proofs.CountLaws.{possible-count, count-possible, zero-count, count-zero}
use Rattle.obligations.proofs.PositionLaws.{AllPass, FailsFirst, pass_first, first_pass, fails_first, first_fails}

-- ---- words

pub bindings-words : (s : List Binding) → bindings (words s) ≡ s
unfolding bindings words
bindings-words [] = refl
bindings-words (b ∷ s) = ap (λ (t : List Binding). b ∷ t) (bindings-words s)

pub words_nil : words [] ≡ []
unfolding words
words_nil = refl

pub words_cons : (b : Binding) (s : List Binding) → words (b ∷ s) ≡ b.activity ∷ b.input ∷ b.output ∷ words s
unfolding words
words_cons b s = refl

pub length-words : (s : List Binding) → length (words s) ≡ 3 * length s
unfolding words
length-words [] = refl
length-words (b ∷ s) = omega (arith, length-words s)

-- words that are a multiple of three hold a third as many bindings, and nothing else
pub words-bindings : (w : List ℕ) (n : ℕ) → length w ≡ 3 * n → words (bindings w) ≡ w
unfolding bindings words
words-bindings [] n e = refl
words-bindings (a ∷ []) n e = absurd (omega arith)
words-bindings (a ∷ x ∷ []) n e = absurd (omega arith)
words-bindings (a ∷ x ∷ y ∷ w) zero e = absurd (omega arith)
words-bindings (a ∷ x ∷ y ∷ w) (suc n) e = ap (λ (v : List ℕ). a ∷ x ∷ y ∷ v) (words-bindings w n (omega arith))

pub length-bindings : (w : List ℕ) (n : ℕ) → length w ≡ 3 * n → length (bindings w) ≡ n
unfolding bindings
length-bindings [] n e = omega arith
length-bindings (a ∷ []) n e = absurd (omega arith)
length-bindings (a ∷ x ∷ []) n e = absurd (omega arith)
length-bindings (a ∷ x ∷ y ∷ w) zero e = absurd (omega arith)
length-bindings (a ∷ x ∷ y ∷ w) (suc n) e = ap suc (length-bindings w n (omega arith))

-- the first of the bindings that words hold, and the words behind it, as the walk over them leaves these
pub bindings_short : (w : List ℕ) → length w < 3 → bindings w ≡ []
unfolding bindings
bindings_short [] h = refl
bindings_short (a ∷ []) h = refl
bindings_short (a ∷ x ∷ []) h = refl
bindings_short (a ∷ x ∷ y ∷ w) h = absurd (omega arith)

pub bindings_next : (w : List ℕ) → 3 ≤ length w
    → bindings w ≡ record { activity = get_or w 0 0; input = get_or w 1 0; output = get_or w 2 0 } ∷ bindings (take (length w - 3) (drop 3 w))
unfolding bindings
bindings_next [] h = absurd (omega arith)
bindings_next (a ∷ []) h = absurd (omega arith)
bindings_next (a ∷ x ∷ []) h = absurd (omega arith)
bindings_next (a ∷ x ∷ y ∷ w) h =
    let n : suc (suc (suc (length w))) - 3 ≡ length w = omega arith in
    rw n (ap (λ (v : List ℕ). record { activity = a; input = x; output = y } ∷ bindings v) (sym (take-length w)))

-- the binding after i others stands in the words from 3 * i on
pub record HeldAt (w : List ℕ) (i : ℕ) : Type 0 where
  pub activity_held : (at (bindings w) i).activity ≡ get_or w (3 * i) 0
  pub input_held : (at (bindings w) i).input ≡ get_or w (3 * i + 1) 0
  pub output_held : (at (bindings w) i).output ≡ get_or w (3 * i + 2) 0

pub held_at : (w : List ℕ) (i : ℕ) → i < length (bindings w) → HeldAt w i
unfolding bindings
held_at [] i h = absurd (omega arith)
held_at (a ∷ []) i h = absurd (omega arith)
held_at (a ∷ x ∷ []) i h = absurd (omega arith)
held_at (a ∷ x ∷ y ∷ w) zero h = record { activity_held = refl; input_held = refl; output_held = refl }
held_at (a ∷ x ∷ y ∷ w) (suc i) h =
    let r = held_at w i (omega arith) in
    let e : 3 * suc i ≡ suc (suc (suc (3 * i))) = omega arith in
    let e₁ : 3 * suc i + 1 ≡ suc (suc (suc (3 * i + 1))) = omega arith in
    let e₂ : 3 * suc i + 2 ≡ suc (suc (suc (3 * i + 2))) = omega arith in
    record { activity_held = rw e r.activity_held; input_held = rw e₁ r.input_held; output_held = rw e₂ r.output_held }

-- ---- the state after one position more

abbrev pub fired : List ℕ → Binding → List ℕ
fired d b = after d b.activity b.input b.output

-- no position leaves the state, and the first comes before the rest
pub run_nil : (d : List ℕ) → run d [] ≡ d
unfolding run
run_nil d = refl

pub run_cons : (d : List ℕ) (b : Binding) (s : List Binding) → run d (b ∷ s) ≡ run (fired d b) s
unfolding run
run_cons d b s = refl

pub run-append : (d : List ℕ) (s t : List Binding) → run d (s ++ t) ≡ run (run d s) t
unfolding run
run-append d [] t = refl
run-append d (b ∷ s) t = run-append (fired d b) s t

pub ψ-next : (s : List Binding) (i : ℕ) → i < length s → ψ (take (i + 1) s) ≡ fired (ψ (take i s)) (at s i)
unfolding run
ψ-next s i h = rw (add-one i, take-suc s i (record { activity = 0; input = 0; output = 0 }) h) (run-append nothing (take i s) (at s i ∷ []))

pub run_state : (n : ℕ) (d : List ℕ) (s : List Binding) → State n d → State (n + length s) (run d s)
unfolding run
run_state n d [] h = subst (λ (k : ℕ). State k d) (omega arith) h
run_state n d (b ∷ s) h = subst (λ (k : ℕ). State k (run (fired d b) s)) (omega arith) (run_state (n + 1) (fired d b) s (after_state n d b.activity b.input b.output h))

-- a count never exceeds the number of positions so far
pub ψ_state : (s : List Binding) → State (length s) (ψ s)
ψ_state s = subst (λ (k : ℕ). State k (ψ s)) (omega arith) (run_state 0 nothing s nothing_state)

-- within the limit of positions a byte holds each count and one more
pub ψ_in_bytes : (s : List Binding) → length s ≤ positions → State most_due (ψ s)
ψ_in_bytes s h = state_le (omega arith) (ψ_state s)

-- ---- each binding possible after those before it

-- the test of a position, and the tests of all
pub possible_test : (s : List Binding) (i : ℕ) → possible_at s i ≡ possible (ψ (take i s)) (at s i).activity (at s i).input
unfolding possible_at
possible_test s i = refl

pub impossible_tests : (s : List Binding) → first_impossible s ≡ first_failing (length s) (possible_at s)
unfolding first_impossible
impossible_tests s = refl

pub possible_at_lem : (s : List Binding) (i : ℕ) → (possible_at s i ≡ true) ↔ Possible (ψ (take i s)) (at s i)
unfolding possible_at
possible_at_lem s i =
    (possible-count (ψ (take i s)) (at s i).activity (at s i).input, count-possible (ψ (take i s)) (at s i).activity (at s i).input)

pub pass_impossible : (s : List Binding) → AllPass (length s) (possible_at s) → first_impossible s ≡ 0
unfolding first_impossible
pass_impossible s all = pass_first (length s) (possible_at s) all

pub fails_impossible : (s : List Binding) (i : ℕ) → FailsFirst (length s) (possible_at s) i → first_impossible s ≡ suc i
unfolding first_impossible
fails_impossible s i f = fails_first (length s) (possible_at s) i f

pub none_impossible : (s : List Binding) → (first_impossible s ≡ 0) ↔ EachPossible s
unfolding first_impossible
none_impossible s = (
  (λ e i l. (possible_at_lem s i).0 (first_pass (length s) (possible_at s) e i l)),
  (λ h. pass_first (length s) (possible_at s) (λ i l. (possible_at_lem s i).1 (h i l))),
)

pub first_impossible_lem : (s : List Binding) (i : ℕ) → (first_impossible s ≡ suc i) ↔ ImpossibleAfter s i
unfolding first_impossible
first_impossible_lem s i = (after_others, back)
  where
    after_others : first_impossible s ≡ suc i → ImpossibleAfter s i
    after_others e =
        let f = first_fails (length s) (possible_at s) i e in
        record {
          inside = f.inside;
          before_possible = λ j l. (possible_at_lem s j).0 (f.before j l);
          own_not = λ p. false-not-true f.fails ((possible_at_lem s i).1 p);
        }

    back : ImpossibleAfter s i → first_impossible s ≡ suc i
    back f =
        fails_first (length s) (possible_at s) i
        (record {
          inside = f.inside;
          before = λ j l. (possible_at_lem s j).1 (f.before_possible j l);
          fails = ⊎_elim (λ t. absurd (f.own_not ((possible_at_lem s i).0 t))) (λ e. e) (true_or_false (possible_at s i));
        })

-- ---- completing, said of every position and of the last state

pub completes_nil : (d : List ℕ) → completes d [] ≡ all_zero d
unfolding completes
completes_nil d = refl

pub completes_cons : (d : List ℕ) (b : Binding) (s : List Binding)
    → completes d (b ∷ s) ≡ possible d b.activity b.input && completes (after d b.activity b.input b.output) s
unfolding completes
completes_cons d b s = refl

-- from the state d on, each binding is possible after those before it
abbrev pub EachFrom : List ℕ → List Binding → Type 0
EachFrom d s = (i : ℕ) → i < length s → possible (run d (take i s)) (at s i).activity (at s i).input ≡ true

-- the first binding, and the others from the state after it
pub each_first : (d : List ℕ) (b : Binding) (s : List Binding) → EachFrom d (b ∷ s) → possible d b.activity b.input ≡ true
unfolding run
each_first d b s e = e 0 (omega arith)

pub each_rest : (d : List ℕ) (b : Binding) (s : List Binding) → EachFrom d (b ∷ s) → EachFrom (fired d b) s
unfolding run
each_rest d b s e i h = e (suc i) (omega arith)

pub completes_each : (d : List ℕ) (s : List Binding) → completes d s ≡ true → EachFrom d s
unfolding completes run
completes_each d [] e i h = absurd (omega arith)
completes_each d (b ∷ s) e zero h = and_left (possible d b.activity b.input) (completes (fired d b) s) e
completes_each d (b ∷ s) e (suc i) h = completes_each (fired d b) s (and_right (possible d b.activity b.input) (completes (fired d b) s) e) i (omega arith)

pub each_from-possible : (s : List Binding) → EachFrom nothing s → first_impossible s ≡ 0
unfolding possible_at
each_from-possible s h = pass_impossible s h

pub each_possible-from : (s : List Binding) → first_impossible s ≡ 0 → EachFrom nothing s
unfolding possible_at first_impossible
each_possible-from s e = first_pass (length s) (possible_at s) e

pub completes-zero : (d : List ℕ) (s : List Binding) → completes d s ≡ true → all_zero (run d s) ≡ true
unfolding completes run
completes-zero d [] e = e
completes-zero d (b ∷ s) e = completes-zero (fired d b) s (and_right (possible d b.activity b.input) (completes (fired d b) s) e)

pub each_completes : (d : List ℕ) (s : List Binding) → EachFrom d s → all_zero (run d s) ≡ true → completes d s ≡ true
unfolding completes run
each_completes d [] h z = z
each_completes d (b ∷ s) h z = and_both (h 0 (omega arith)) (each_completes (fired d b) s (λ i l. h (suc i) (omega arith)) z)

-- the last state is all zero: the test is the fact
pub zero_left : (s : List Binding) → (all_zero (ψ s) ≡ true) ↔ NothingLeft (ψ s)
zero_left s = (zero-count (ψ s), count-zero (ψ s) (ψ_state s).long)

pub completes_both : (s : List Binding) → (completes nothing s ≡ true) ↔ (EachPossible s × NothingLeft (ψ s))
unfolding possible_at
completes_both s = (
  (λ e. ((λ i l. (possible_at_lem s i).0 (completes_each nothing s e i l)), (zero_left s).0 (completes-zero nothing s e))),
  (λ w. each_completes nothing s (λ i l. (possible_at_lem s i).1 (w.0 i l)) ((zero_left s).1 w.1)),
)
