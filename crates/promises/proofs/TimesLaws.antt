-- How often sequences occur in lists of calls. The sequence of each call in a list occurs in it, and one that occurs can be taken out:
-- some call has it, and without that call the list has it one time fewer and every other as often. So where each sequence occurs as often
-- in two lists, all sequences together use each set equally often: the first call's is taken out of both, and so on. Assumes nothing.
use Prim.Native.Nat.{ℕ, ◌+◌, ◌<◌}
use native.Mathlib.Omega.{arith}
use mathlib.Core.Path.{◌≡◌, refl, ap, ◌∙◌}
use mathlib.Core.Bool.{Bool, cond}
use mathlib.Core.List.{List, [], ◌∷◌, Memᴰ}
use mathlib.Core.List.Memᴰ
use mathlib.Core.Logic.{inl, inr, ⊎_elim}
use Rattle.std.specs.Prelude.{eqb}
use Rattle.std.specs.Cmp.Lexicographic.{pointwise, bytes_decides}
use Rattle.std.proofs.lemmas.List.Sums.{sum_by-cons}
use Rattle.obligations.specs.Sequence.{bindings}
use Rattle.obligations.specs.declared.sequence.Binding.{Binding}
use Rattle.obligations.proofs.BoolLaws.{true_or_false}
use Rattle.net.specs.declared.sides.Side.{Side}
use Rattle.sequences.specs.Gain.{SetOf, uses}
use Rattle.sequences.specs.Statements.{SameUses}
use Rattle.sequences.proofs.JoinLaws.{set_used, used_set, uses_join, set_either}
use Rattle.promises.specs.Calls.{Call, sequence_of, learned_words, together}
use Rattle.promises.specs.Order.{times, AsOften, positions_of}
use Rattle.promises.proofs.CallLaws.{bindings-learned}

-- 1 if two sequences are the same, and else 0
abbrev pub same : List ℕ → List ℕ → ℕ
same ws vs = cond (pointwise eqb ws vs) 1 0

same_own : (ws : List ℕ) → same ws ws ≡ 1
same_own ws = rw ((bytes_decides ws ws).1 refl)

-- one call and the others
times_first : (ws : List ℕ) (call : Call) (calls : List Call) → times ws (call ∷ calls) ≡ same (learned_words call) ws + times ws calls
unfolding times
times_first ws call calls = sum_by-cons _ call calls

uses_first : (call : Call) (calls : List Call) (side : Side) (a m : ℕ) → uses side (positions_of (call ∷ calls)) a m ≡ uses side (bindings (learned_words call)) a m + uses side (positions_of calls) a m
unfolding together
uses_first call calls side a m = rw (bindings-learned call) (uses_join side (sequence_of call) (positions_of calls) a m)

-- ---- what occurs

pub occurs : (call : Call) (calls : List Call) → Memᴰ call calls → 0 < times (learned_words call) calls
occurs call [] i = absurd (Memᴰ.not-nil i)
occurs call (c ∷ cs) i =
    ⊎_elim (λ e. omega (arith, times_first (learned_words call) c cs, ap (λ (d : Call). same (learned_words d) (learned_words call)) e, same_own (learned_words call)))
    (λ j. omega (arith, times_first (learned_words call) c cs, occurs call cs j))
    (Memᴰ.cases_cons i)

-- a call with these words, and the list without it
pub record TakenOut (ws : List ℕ) (calls : List Call) : Type 0 where
  pub call : Call
  pub among : Memᴰ call calls
  pub words_are : learned_words call ≡ ws
  pub others : List Call
  pub times_are : (vs : List ℕ) → times vs calls ≡ same ws vs + times vs others
  pub uses_are : (side : Side) (a m : ℕ) → uses side (positions_of calls) a m ≡ uses side (bindings ws) a m + uses side (positions_of others) a m

pub taken_out : (ws : List ℕ) (calls : List Call) → 0 < times ws calls → TakenOut ws calls
unfolding times
taken_out ws [] h = absurd (omega arith)
taken_out ws (c ∷ cs) h = elim (true_or_false (pointwise eqb (learned_words c) ws)) [
  | inl t ↦
      let e = (bytes_decides (learned_words c) ws).0 t in
      record {
        call = c;
        among = Memᴰ.head refl;
        words_are = e;
        others = cs;
        times_are = λ vs. times_first vs c cs ∙ rw e;
        uses_are = λ side a m. uses_first c cs side a m ∙ rw e;
      }
  | inr f ↦
      let w = taken_out ws cs (omega (arith, h, times_first ws c cs, ap (λ (t : Bool). cond {A = ℕ} t 1 0) f)) in
      record {
        call = w.call;
        among = Memᴰ.tail w.among;
        words_are = w.words_are;
        others = c ∷ w.others;
        times_are = λ vs. omega (arith, w.times_are vs, times_first vs c cs, times_first vs c w.others);
        uses_are = λ side a m. omega (arith, uses_first c cs side a m, w.uses_are side a m, uses_first c w.others side a m);
      }
]

-- a list in which nothing occurs has no call
pub none_occurs : (calls : List Call) → ((ws : List ℕ) → 0 < times ws calls → ⊥) → calls ≡ []
none_occurs [] h = refl
none_occurs (c ∷ cs) h = absurd (h (learned_words c) (occurs c (c ∷ cs) (Memᴰ.head refl)))

pub nothing_occurs : (ws : List ℕ) → 0 < times ws [] → ⊥
unfolding times
nothing_occurs ws h = absurd (omega arith)

-- ---- the uses of all sequences together

pub same_uses : (calls calls' : List Call) → AsOften calls calls' → SameUses (positions_of calls) (positions_of calls')
same_uses [] calls' h side a m = rw (none_occurs calls' (λ ws k. nothing_occurs ws (omega (arith, h ws, k))))
same_uses (c ∷ cs) calls' h side a m =
    let ws = learned_words c in
    let w = taken_out ws calls' (omega (arith, h ws, occurs c (c ∷ cs) (Memᴰ.head refl))) in
    omega (arith, uses_first c cs side a m, w.uses_are side a m, same_uses cs w.others (λ vs. omega (arith, h vs, times_first vs c cs, w.times_are vs)) side a m)

-- ---- the sets of all sequences together

-- where each sequence of one list occurs in another, all its sets are sets of the other's
pub sets_among : (calls calls' : List Call) → ((ws : List ℕ) → 0 < times ws calls → 0 < times ws calls') → (side : Side) (a m : ℕ)
    → SetOf side (positions_of calls) a m → SetOf side (positions_of calls') a m
unfolding together
sets_among [] calls' h side a m f = absurd (omega (arith, f.inside))
sets_among (c ∷ cs) calls' h side a m f =
    ⊎_elim
    (λ g.
    let w = taken_out (learned_words c) calls' (h (learned_words c) (occurs c (c ∷ cs) (Memᴰ.head refl))) in
    used_set side (positions_of calls') a m (omega (arith, set_used side (sequence_of c) a m g, ap (λ (s : List Binding). uses side s a m) (bindings-learned c), w.uses_are side a m)))
    (λ g. sets_among cs calls' (λ ws k. h ws (omega (arith, times_first ws c cs))) side a m g)
    (set_either side (sequence_of c) (positions_of cs) a m f)
