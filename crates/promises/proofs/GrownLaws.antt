-- The net after a list of calls: it holds exactly what it held and the sets of the sequences accepted, each of which is
-- well-formed for its start and end, and has counted their uses. One call after the other. Assumes nothing.
use Prim.Native.Nat.{ℕ, ◌+◌}
use mathlib.Core.Path.{◌≡◌, refl, ap}
use mathlib.Core.Bool.{Bool, true, false, cond}
use mathlib.Core.List.Memᴰ
use mathlib.Core.List.{List, [], ◌∷◌, Memᴰ}
use mathlib.Core.Logic.{◌⊎◌, inl, inr, ⊎_elim}
use native.Mathlib.Omega.{arith}
use Rattle.obligations.specs.State.{total}
use Rattle.obligations.specs.Sequence.{WellFormed}
use Rattle.obligations.specs.declared.sequence.Binding.{Binding}
use Rattle.net.specs.Refusals.{Says, accepted, refused}
use Rattle.net.specs.Sides.{counts_on, OnSide}
use Rattle.net.specs.Orderly.{Orderly}
use Rattle.net.specs.Valid.{Valid}
use Rattle.net.specs.declared.Net.{Net}
use Rattle.net.specs.declared.sides.Side.{Side}
use Rattle.sequences.specs.Gain.{SetOf, uses, occurrences_of, Gains}
use Rattle.sequences.specs.Learn.{new_sets}
use Rattle.sequences.proofs.JoinLaws.{NoMore, uses_join, occurrences_nothing, occurrences_join, set_either, gains_nothing, gains_both, formed_as, gained-valid}
use Rattle.promises.specs.Calls.{Call, sequence_of, together, says, gives, grown, AllWords}
use Rattle.promises.proofs.ValidWalkLaws.{SetsAreMasks}
use Rattle.promises.proofs.CallLaws.{call_listed, call_accepted, call_gains, call_adds_up, call_valid, call_stays, call_masks}

-- ---- the sets and uses of several sequences, one after the other

-- m is a set that one of the sequences has for activity a's side
pub record SetOfSome (side : Side) (ss : List (List Binding)) (a m : ℕ) : Type 0 where
  pub sequence : List Binding
  pub among : Memᴰ sequence ss
  pub set_of : SetOf side sequence a m

set_of_some : (side : Side) (ss : List (List Binding)) (a m : ℕ) → SetOf side (together ss) a m → SetOfSome side ss a m
unfolding together
set_of_some side [] a m f = absurd (omega (arith, f.inside))
set_of_some side (s ∷ ss) a m f =
    ⊎_elim (λ w. record { sequence = s; among = Memᴰ.head refl; set_of = w })
    (λ w. let g = set_of_some side ss a m w in record { sequence = g.sequence; among = Memᴰ.tail g.among; set_of = g.set_of })
    (set_either side s (together ss) a m f)

-- one of them uses no set more often than all together
pub no_more : (s : List Binding) (ss : List (List Binding)) → Memᴰ s ss → NoMore s (together ss)
unfolding together
no_more s [] i t a m = absurd (Memᴰ.not-nil i)
no_more s (r ∷ ss) i t a m =
    ⊎_elim (λ e. omega (arith, uses_join t r (together ss) a m, ap (λ (q : List Binding). uses t q a m) e)) (λ j. omega (arith, uses_join t r (together ss) a m, no_more s ss j t a m))
    (Memᴰ.cases_cons i)

-- ---- a net that has gained several sequences, each of them well-formed for its start and end

pub record Grown (net after : Net) (ss : List (List Binding)) : Type 0 where
  pub gains : Gains net (together ss) after
  pub adds_up : (side : Side) (a : ℕ) → total (counts_on after side a) ≡ total (counts_on net side a) + occurrences_of (together ss) a
  pub each_formed : (s : List Binding) → Memᴰ s ss → WellFormed net.start net.end s

-- a set of the grown net was on its side before, or one of the sequences has it
pub grown_set : {net after : Net} {ss : List (List Binding)} → Grown net after ss → (side : Side) (a m : ℕ) → OnSide after side a m → OnSide net side a m ⊎ SetOfSome side ss a m
grown_set {ss = ss} g side a m i = ⊎_elim inl (λ f. inr (set_of_some side ss a m f)) ((g.gains.on_sides side a m).0 i)

grown_none : (net : Net) → Orderly net → Grown net net []
unfolding together
grown_none net o = record {
  gains = gains_nothing net o;
  adds_up = λ side a. omega (arith, occurrences_nothing a);
  each_formed = λ s m. absurd (Memᴰ.not-nil m);
}

-- one sequence more, before the others
grown_more : (net next after : Net) (s : List Binding) (ss : List (List Binding)) → Valid next s → Gains net s next
    → ((side : Side) (a : ℕ) → total (counts_on next side a) ≡ total (counts_on net side a) + occurrences_of s a) → Grown next after ss → Grown net after (s ∷ ss)
unfolding together
grown_more net next after s ss v g u r = record {
  gains = gains_both net next s (together ss) g after r.gains;
  adds_up = λ side a. omega (arith, r.adds_up side a, u side a, occurrences_join s (together ss) a);
  each_formed = λ t m. ⊎_elim (λ e. rw e (as_net s v.well_formed)) (λ k. as_net t (r.each_formed t k)) (Memᴰ.cases_cons m);
}
  where
    as_net : (t : List Binding) → WellFormed next.start next.end t → WellFormed net.start net.end t
    as_net t w = formed_as next.start next.end net.start net.end g.same_start g.same_end w

-- ---- a list of calls

-- the sequences of the calls that are accepted
unfoldable pub learned : Net → List Call → List (List Binding)
learned net [] = []
learned net (call ∷ calls) = let rest = learned (gives net call) calls in cond (says net call).ok (sequence_of call ∷ rest) rest

pub learned-nothing : (net : Net) → learned net [] ≡ []
unfolding learned
learned-nothing net = refl

module _ (net : Net) (call : Call) (calls : List Call) where
  pub learned_more : (new : ℕ) → says net call ≡ accepted new → learned net (call ∷ calls) ≡ sequence_of call ∷ learned (gives net call) calls
  unfolding learned
  learned_more new e = rw (ap (λ (s : Says). s.ok) e)

  pub learned_same : (n p : ℕ) → says net call ≡ refused n p → learned net (call ∷ calls) ≡ learned net calls
  unfolding learned
  learned_same n p e = rw (ap (λ (s : Says). s.ok) e, call_stays net call n p e)

-- a call is accepted, or refused
pub accepted_or_refused : (net : Net) (call : Call) → ((new : ℕ) × (says net call ≡ accepted new)) ⊎ ((n p : ℕ) × (says net call ≡ refused n p))
accepted_or_refused net call =
    let l = call_listed net call in
    ⊎_elim (λ none. inl (new_sets net (sequence_of call), (call_accepted net call).1 none)) (λ g. inr (g.0, g.1, (l.refused_exactly g.0 g.1).1 g.2)) l.given_or_none

pub grown_list : (net : Net) (calls : List Call) → Orderly net → Grown net (grown net calls) (learned net calls)
unfolding grown
grown_list net [] o = rw (learned-nothing net) (grown_none net o)
grown_list net (call ∷ calls) o =
    ⊎_elim
    (λ w.
    let g = call_gains net call w.0 w.1 in
    rw (learned_more net call calls w.0 w.1)
    (grown_more net (gives net call) (grown (gives net call) calls) (sequence_of call) (learned (gives net call) calls) (call_valid net call w.0 w.1) g (call_adds_up net call w.0 w.1) (grown_list (gives net call) calls g.is_orderly)))
    (λ w. rw (learned_same net call calls w.0 w.1 w.2, call_stays net call w.0 w.1 w.2) (grown_list net calls o))
    (accepted_or_refused net call)

-- each set of the sequences has 32 bits, where each word of the calls has
pub learned-masks : (net : Net) (calls : List Call) → AllWords calls → (s : List Binding) → Memᴰ s (learned net calls) → SetsAreMasks s
unfolding learned
learned-masks net [] w s m = absurd (Memᴰ.not-nil m)
learned-masks net (call ∷ calls) w s m =
    cases (says net call).ok (learned-masks (gives net call) calls (λ c i. w c (Memᴰ.tail i)) s) m
  where
    cases : (t : Bool) → (Memᴰ s (learned (gives net call) calls) → SetsAreMasks s)
        → Memᴰ s (cond t (sequence_of call ∷ learned (gives net call) calls) (learned (gives net call) calls)) → SetsAreMasks s
    cases true rest k = ⊎_elim (λ e. rw e (call_masks call (w call (Memᴰ.head refl)))) rest (Memᴰ.cases_cons k)
    cases false rest k = rest k

-- each of the sequences is valid in the net that has grown by them
pub grown-valid : (net after : Net) (ss : List (List Binding)) → Grown net after ss → (s : List Binding) → Memᴰ s ss → Valid after s
grown-valid net after ss g s m = gained-valid net after s (together ss) (no_more s ss m) g.gains (g.each_formed s m)
