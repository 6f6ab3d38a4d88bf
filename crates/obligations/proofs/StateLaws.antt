-- Laws of the state and its step: what each part of a step does to every count, that undoing gives the state back, how far
-- the counts can grow, and the test that all are zero. The layers above use these and no definition's text. Assumes nothing.
use Rattle.std.proofs.Common.{ℕ, zero, suc, ◌+◌, ◌-◌, ◌*◌, ◌≤◌, ◌<◌, ◌≡◌, refl, sym, ap, ◌∙◌, ⊎_elim, Bool, true, false, ◌&&◌, List, [], ◌∷◌, eq-zero-or-pos, arith, eq-eqb, eqb-true, bit_or, eqb, lit<, length, get_or, take, drop, replicate, length-take, ext_get_or, get_or-take, get_or-drop, drop-drop, fold}
use mathlib.Core.Bool.{and_assoc, and-true}
use lib.Bits.{or_add_and, and_le_l, and_le_r}
use lib.ListN.{get_or-replicate, get_or-eq_default}
use Rattle.std.specs.Bool.{MatchBool}
use Rattle.std.specs.List.{AllWithin, HoldsAt, range_with_len}
use Rattle.obligations.specs.Sets.{single}
use Rattle.obligations.specs.State.{nothing, inputs, outputs, all_due, lowered, raised, possible, taken, added, after, covers, unadded, untaken, before, all_zero, State}
use Rattle.obligations.proofs.BoolLaws.{and_left, and_right, and_both, same_test, true_or_false, false-not-true}
use Rattle.obligations.proofs.SetLaws.{lt_or_le}
use Rattle.obligations.proofs.PlaceLaws.{places_none, places-single, occ, lowered-at, raised_at_lem, length-lowered, length-raised, places_once, places_found, due_at, due_all}

-- ---- lengths

pub length_taken : (d : List ℕ) (a x : ℕ) → length (taken d a x) ≡ length d
unfolding taken
length_taken d a x = length-lowered d (inputs a x)

pub length-added : (d : List ℕ) (a y : ℕ) → length (added d a y) ≡ length d
unfolding added
length-added d a y = length-raised d (outputs a y)

length-unadded : (d : List ℕ) (a y : ℕ) → length (unadded d a y) ≡ length d
unfolding unadded
length-unadded d a y = length-lowered d (outputs a y)

length-untaken : (d : List ℕ) (a x : ℕ) → length (untaken d a x) ≡ length d
unfolding untaken
length-untaken d a x = length-raised d (inputs a x)

-- ---- every place, after each part of a step

pub inputs_once : (a x j : ℕ) → occ j (inputs a x) ≤ 1
unfolding inputs
inputs_once a x j = places_once (a * 32) 1 (lit< tt) x j

pub outputs_once : (a y j : ℕ) → occ j (outputs a y) ≤ 1
unfolding outputs
outputs_once a y j = places_once a 32 (lit< tt) y j

pub taken_at : (d : List ℕ) (a x j : ℕ) → get_or (taken d a x) j 0 ≡ get_or d j 0 - occ j (inputs a x)
unfolding taken
taken_at d a x j = lowered-at d (inputs a x) j

pub added-at : (d : List ℕ) (a y j : ℕ) → j < length d → get_or (added d a y) j 0 ≡ get_or d j 0 + occ j (outputs a y)
unfolding added
added-at d a y j h = raised_at_lem d (outputs a y) j h

pub after-at : (d : List ℕ) (a x y j : ℕ) → j < length d → get_or (after d a x y) j 0 ≡ (get_or d j 0 - occ j (inputs a x)) + occ j (outputs a y)
unfolding after
after-at d a x y j h = added-at (taken d a x) a y j (rw length_taken h) ∙ ap (λ (v : ℕ). v + occ j (outputs a y)) (taken_at d a x j)

unadded-at : (d : List ℕ) (a y j : ℕ) → get_or (unadded d a y) j 0 ≡ get_or d j 0 - occ j (outputs a y)
unfolding unadded
unadded-at d a y j = lowered-at d (outputs a y) j

untaken-at : (d : List ℕ) (a x j : ℕ) → j < length d → get_or (untaken d a x) j 0 ≡ get_or d j 0 + occ j (inputs a x)
unfolding untaken
untaken-at d a x j h = raised_at_lem d (inputs a x) j h

-- a possible binding takes no more than there is
pub possible_at_lem : (d : List ℕ) (a x : ℕ) → possible d a x ≡ true → (j : ℕ) → occ j (inputs a x) ≤ get_or d j 0
unfolding possible
possible_at_lem d a x e j = ⊎_elim (λ z. omega arith) (λ p. omega (arith, inputs_once a x j, due_at d (inputs a x) e j p)) (eq-zero-or-pos (occ j (inputs a x)))

-- ---- undoing

pub untaken-taken : (d : List ℕ) (a x : ℕ) → possible d a x ≡ true → untaken (taken d a x) a x ≡ d
untaken-taken d a x e =
    ext_get_or 0 (untaken (taken d a x) a x) d (length-untaken (taken d a x) a x ∙ length_taken d a x) (λ j h.
    let l : j < length (taken d a x) = omega (arith, length-untaken (taken d a x) a x) in
    omega (arith, untaken-at (taken d a x) a x j l, taken_at d a x j, possible_at_lem d a x e j))

pub unadded-added : (d : List ℕ) (a y : ℕ) → unadded (added d a y) a y ≡ d
unadded-added d a y =
    ext_get_or 0 (unadded (added d a y) a y) d (length-unadded (added d a y) a y ∙ length-added d a y) (λ j h.
    let l : j < length d = omega (arith, length-unadded (added d a y) a y, length-added d a y) in
    omega (arith, unadded-at (added d a y) a y j, added-at d a y j l))

-- a step takes for its input set and then adds for its output set
pub after-added : (d : List ℕ) (a x y : ℕ) → after d a x y ≡ added (taken d a x) a y
unfolding after
after-added d a x y = refl

-- undoing a possible step gives the state before it
pub before-after : (d : List ℕ) (a x y : ℕ) → possible d a x ≡ true → before (after d a x y) a x y ≡ d
unfolding before after
before-after d a x y e = ap (λ (l : List ℕ). untaken l a x) (unadded-added (taken d a x) a y) ∙ untaken-taken d a x e

outputs-inside : (d : List ℕ) (a y : ℕ) → length d ≡ 1024 → a < 32 → (j : ℕ) → 0 < occ j (outputs a y) → j < length d
unfolding outputs
outputs-inside d a y l h j o = let f = places_found a 32 y j o in omega (arith, f.1, f.2)

-- what was added is there to be undone
pub added-covers : (d : List ℕ) (a y : ℕ) → length d ≡ 1024 → a < 32 → covers (added d a y) a y ≡ true
unfolding covers
added-covers d a y l h = due_all (added d a y) (outputs a y) (λ j o. omega (arith, added-at d a y j (outputs-inside d a y l h j o)))

pub after-covers : (d : List ℕ) (a x y : ℕ) → length d ≡ 1024 → a < 32 → covers (after d a x y) a y ≡ true
unfolding after
after-covers d a x y l h = added-covers (taken d a x) a y (length_taken d a x ∙ l) h

-- ---- no input, no output, and one obligation handed on

pub possible_none : (d : List ℕ) (a : ℕ) → possible d a 0 ≡ true
unfolding possible inputs all_due
possible_none d a = ap (all_due d) (places_none (a * 32) 1)

pub taken_none : (d : List ℕ) (a : ℕ) → taken d a 0 ≡ d
unfolding taken inputs lowered
taken_none d a = ap (lowered d) (places_none (a * 32) 1)

pub added_none : (d : List ℕ) (a : ℕ) → added d a 0 ≡ d
unfolding added outputs raised
added_none d a = ap (raised d) (places_none a 32)

-- what a adds for b alone is what b takes from a alone
same_place : (a b : ℕ) → a < 32 → b < 32 → inputs b (single a) ≡ outputs a (single b)
unfolding inputs outputs
same_place a b ha hb = places-single (b * 32) 1 a ha ∙ ap (λ (k : ℕ). k ∷ []) (omega arith) ∙ sym (places-single a 32 b hb)

pub handed_possible : (d : List ℕ) (a b : ℕ) → length d ≡ 1024 → a < 32 → b < 32 → possible (added d a (single b)) b (single a) ≡ true
unfolding possible covers
handed_possible d a b l ha hb = ap (all_due (added d a (single b))) (same_place a b ha hb) ∙ added-covers d a (single b) l ha

pub handed_taken : (d : List ℕ) (a b : ℕ) → a < 32 → b < 32 → taken (added d a (single b)) b (single a) ≡ d
unfolding taken unadded
handed_taken d a b ha hb = ap (lowered (added d a (single b))) (same_place a b ha hb) ∙ unadded-added d a (single b)

-- ---- how far counts can grow

pub state_le : {m n : ℕ} {d : List ℕ} → m ≤ n → State m d → State n d
state_le h s = record { long = s.long; small = λ i. omega (arith, s.small i) }

pub taken_state : (n : ℕ) (d : List ℕ) (a x : ℕ) → State n d → State n (taken d a x)
taken_state n d a x s = record { long = length_taken d a x ∙ s.long; small = λ j. omega (arith, taken_at d a x j, s.small j) }

pub added_state : (n : ℕ) (d : List ℕ) (a y : ℕ) → State n d → State (n + 1) (added d a y)
added_state n d a y s = record {
  long = length-added d a y ∙ s.long;
  small = λ j. ⊎_elim (λ h. omega (arith, added-at d a y j h, s.small j, outputs_once a y j)) (λ h. omega (arith, get_or-eq_default (added d a y) 0 {n = j} (rw length-added h))) (lt_or_le j (length d));
}

-- a step raises no count by more than 1
pub after_state : (n : ℕ) (d : List ℕ) (a x y : ℕ) → State n d → State (n + 1) (after d a x y)
unfolding after
after_state n d a x y s = added_state n (taken d a x) a y (taken_state n d a x s)

pub unadded_state : (n : ℕ) (d : List ℕ) (a y : ℕ) → State n d → State n (unadded d a y)
unadded_state n d a y s = record { long = length-unadded d a y ∙ s.long; small = λ j. omega (arith, unadded-at d a y j, s.small j) }

pub nothing_state : State 0 nothing
nothing_state = record { long = refl; small = λ i. ⊎_elim (λ h. omega (arith, get_or-replicate {A = ℕ} 1024 i 0 0 h)) (λ h. omega (arith, get_or-eq_default {A = ℕ} (replicate 1024 0) 0 {n = i} h)) (lt_or_le i 1024) }

-- ---- the test that every count is zero

pub zero-end : (d : List ℕ) (i : ℕ) → length d ≤ i → all_zero (drop i d) ≡ true
unfolding all_zero
zero-end [] zero h = refl
zero-end [] (suc i) h = refl
zero-end (x ∷ xs) zero h = absurd (omega arith)
zero-end (x ∷ xs) (suc i) h = zero-end xs i (omega arith)

zero_or : (a b : ℕ) → eqb (bit_or a b) 0 ≡ eqb a 0 && eqb b 0
zero_or a b =
    same_test (eqb (bit_or a b) 0) (eqb a 0 && eqb b 0)
    (λ e. let z = eqb-true (bit_or a b) 0 e in
    and_both (eq-eqb a 0 (omega (arith, or_add_and a b, and_le_l a b, and_le_r a b))) (eq-eqb b 0 (omega (arith, or_add_and a b, and_le_l a b, and_le_r a b))))
    (λ e. eq-eqb (bit_or a b) 0 (omega (arith, or_add_and a b, eqb-true a 0 (and_left (eqb a 0) (eqb b 0) e), eqb-true b 0 (and_right (eqb a 0) (eqb b 0) e))))

-- what all counts have together, and have with what was seen before, is zero exactly if each is
pub zero_fold : (s : ℕ) (d : List ℕ) → eqb (fold bit_or s d) 0 ≡ eqb s 0 && all_zero d
unfolding all_zero
zero_fold s [] = sym (and-true (eqb s 0))
zero_fold s (n ∷ ns) = zero_fold (bit_or s n) ns ∙ ap (λ (t : Bool). t && all_zero ns) (zero_or s n) ∙ and_assoc (eqb s 0) (eqb n 0) (all_zero ns)

-- those from a place on are zero exactly if those to before a later place are and those from there on
zero-split : (d : List ℕ) (n : ℕ) → all_zero d ≡ all_zero (take n d) && all_zero (drop n d)
unfolding all_zero
zero-split d zero = refl
zero-split [] (suc n) = refl
zero-split (x ∷ xs) (suc n) = ap (λ (t : Bool). eqb x 0 && t) (zero-split xs n) ∙ sym (and_assoc (eqb x 0) (all_zero (take n xs)) (all_zero (drop n xs)))

pub zero_between : (d : List ℕ) (from to : ℕ) → from ≤ to → all_zero (drop from d) ≡ all_zero (take (to - from) (drop from d)) && all_zero (drop to d)
zero_between d from to h =
    let place : from + (to - from) ≡ to = omega arith in
    zero-split (drop from d) (to - from) ∙ ap (λ (l : List ℕ). all_zero (take (to - from) (drop from d)) && all_zero l) (drop-drop (to - from) from d ∙ ap (λ (k : ℕ). drop k d) place)

-- every count is zero, at each place, and back
pub zero-at : (d : List ℕ) → all_zero d ≡ true → (i : ℕ) → get_or d i 0 ≡ 0
unfolding all_zero
zero-at [] e i = refl
zero-at (x ∷ xs) e zero = eqb-true x 0 (and_left (eqb x 0) (all_zero xs) e)
zero-at (x ∷ xs) e (suc i) = zero-at xs (and_right (eqb x 0) (all_zero xs) e) i

pub at_zero : (d : List ℕ) → ((i : ℕ) → i < length d → get_or d i 0 ≡ 0) → all_zero d ≡ true
unfolding all_zero
at_zero [] h = refl
at_zero (x ∷ xs) h = and_both (eq-eqb x 0 (h 0 (omega arith))) (at_zero xs (λ i l. h (suc i) (omega arith)))

pub nothing-zero : all_zero nothing ≡ true
unfolding all_zero
nothing-zero = refl

-- all counts are zero exactly if those of each of the four parts are
abbrev pub zero_in : List ℕ → ℕ → Bool
zero_in d k = all_zero (take (256 * (k + 1) - 256 * k) (drop (256 * k) d))

pub zero-part : (d : List ℕ) (k : ℕ) → all_zero d ≡ true → zero_in d k ≡ true
zero-part d k e =
    at_zero (take (256 * (k + 1) - 256 * k) (drop (256 * k) d)) (λ j h.
    let l : j < 256 * (k + 1) - 256 * k = omega (arith, length-take (256 * (k + 1) - 256 * k) (drop (256 * k) d)) in
    get_or-take (256 * (k + 1) - 256 * k) (drop (256 * k) d) j 0 l ∙ get_or-drop (256 * k) d j 0 ∙ zero-at d e (256 * k + j))

pub zero_parts : (d : List ℕ) (r : Bool) → length d ≡ 1024
    → MatchBool r (AllWithin (λ k. true ≡ zero_in d k) (range_with_len 0 4) 0 4) ((k : ℕ) × (k < 4) × HoldsAt (λ k. false ≡ zero_in d k) (range_with_len 0 4) k)
    → r ≡ all_zero d
zero_parts d true l each =
    sym (zero_between d 0 256 (omega arith) ∙ and_both (sym (each 0 0 (omega arith) (omega arith))) (
    zero_between d 256 512 (omega arith) ∙ and_both (sym (each 1 0 (omega arith) (omega arith))) (
    zero_between d 512 768 (omega arith) ∙ and_both (sym (each 2 0 (omega arith) (omega arith))) (
    zero_between d 768 1024 (omega arith) ∙ and_both (sym (each 3 0 (omega arith) (omega arith))) (zero-end d 1024 (omega arith))))))
zero_parts d false l some =
    ⊎_elim (λ z. absurd (false-not-true (sym (some.2 0)) (zero-part d (get_or (range_with_len 0 4) some.0 0) z))) (λ f. sym f) (true_or_false (all_zero d))
