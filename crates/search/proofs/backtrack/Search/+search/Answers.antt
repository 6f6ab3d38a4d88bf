-- The proof of the cycle of calls {inputs, outputs}. The measure of a call is twice what is left of the trace, and one less where
-- an input set has been taken, since that call comes from the one at the same position. The loops' invariant is `Going`: the
-- trials so far, and then what is left of the loop, make the whole search, while state and buffer are as at entry. A turn of the
-- loop over the input sets is two parts of what is left: the sets that aren't possible, which fail with all their pairs and are
-- counted, and the next possible one. Of the step only its contracts and laws are used. Assumes nothing.
use Rattle.std.proofs.Common.{◌≡◌, ◌+◌, ◌-◌, ◌*◌, ◌<◌, ◌≤◌, ℕ, List, [], ◌∷◌, length, get_or, drop, sym, ap, refl, ◌∙◌, arith}
use Rattle.std.specs.List.{position_or_len}
use Rattle.std.proofs.Math.Nat.{mul-le-mul_left}
use Rattle.std.proofs.lemmas.List.Sums.{prefix_len-le-length}
use Rattle.obligations.specs.State.{possible, taken, untaken}
use Rattle.obligations.proofs.StateLaws.{state_le}
use Rattle.net.specs.Sides.{sets_on}
use Rattle.net.specs.declared.Net.{Net}
use Rattle.net.specs.declared.sides.Side.TheVariants.{Input, Output}
use Rattle.search.specs.Search.{Result, failed, later}
use Rattle.search.specs.Backtrack.{search_lent, search_taken, Searched}
use Rattle.search.specs.declared.Outcome.{Outcome}
use Rattle.search.specs.declared.Outcome.TheVariants.{Found, Failed, Spent}
use Rattle.search.proofs.ResultLaws as laws
use Rattle.search.proofs.SearchLaws as searching
use Rattle.search.proofs.SearchLaws.{inputs_left, outputs_left, first_possible}
use Rattle.search.proofs.Turns as turns
use Rattle.search.proofs.backtrack.Search.+search.Goals as goal

-- ---- a turn over the input sets, over plain values

module _ (net : Net) (trace : List ℕ) (at : ℕ) {due : List ℕ} (rest : List ℕ) {n : ℕ} (first : n ≡ position_or_len (λ x. possible due (get_or trace at 0) x) rest) where
  module _ {budget count : ℕ} {whole : Result} {due₀ out₀ out : List ℕ} (g : turns.Going budget whole (inputs_left net trace at due₀ rest) due₀ due out₀ out count) where
    -- the sets before the next possible one
    passed : {k width : ℕ} → k ≡ n → width ≡ length (sets_on net Output (get_or trace at 0)) → turns.Turn budget whole (failed (k * width)) (inputs_left net trace at due₀ (drop n rest)) due₀ due out₀ out count
    passed e w = rw (e, w) (turns.turn_passed (λ d. search_lent net trace (at + 1) d) (get_or trace at 0) (sets_on net Output (get_or trace at 0)) rest n first g)

    -- and their pairs have been counted
    counted : {k width : ℕ} → k ≡ n → width ≡ length (sets_on net Output (get_or trace at 0)) → k * width ≤ budget - count
        → turns.Going budget whole (inputs_left net trace at due₀ (drop n rest)) due₀ due out₀ out (count + k * width)
    counted e w h = turns.part_counted (passed e w) _ refl (omega (arith, g.high))

  -- the next one has been taken
  module _ {x : ℕ} {more e : List ℕ} (q : drop n rest ≡ x ∷ more) (f : e ≡ taken due (get_or trace at 0) x) where
    turn_at : {budget count : ℕ} {whole : Result} {due₀ out₀ out : List ℕ} → turns.Going budget whole (inputs_left net trace at due₀ (drop n rest)) due₀ due out₀ out count
        → turns.Turn budget whole (search_taken net trace at x e) (inputs_left net trace at due₀ more) due₀ due out₀ out count
    turn_at g = turns.turn_taken (λ d. search_lent net trace (at + 1) d) (get_or trace at 0) (sets_on net Output (get_or trace at 0)) _ _ _ (first_possible due rest (get_or trace at 0) n first q) f (rw q at g)

    undone : {e' due' : List ℕ} → e' ≡ e → due' ≡ untaken e' (get_or trace at 0) x → due' ≡ due
    undone r u = turns.undone_take (get_or trace at 0) _ (first_possible due rest (get_or trace at 0) n first q) f r u

-- a call whose half of the step has been undone
restored : {budget i : ℕ} {r : Result} {o : Outcome} {due due' e e' out out' : List ℕ} → Searched budget r i o e e' out out' → due' ≡ due → Searched budget r i o due due' out out'
restored q same = record { says = q.says; writes = q.writes; restores = same }

-- a call that did not fail ends the loop
stopped : {budget count i : ℕ} {whole part left : Result} {due₀ due due' out₀ out out' : List ℕ} → turns.Turn budget whole part left due₀ due out₀ out count
    → (o : Outcome) → ((k : ℕ) → o ≡ Failed k → ⊥) → Searched budget (later count part) i o due due' out out' → Searched budget whole i o due₀ due' out₀ out'
stopped g (Found k) h q = turns.part_found g refl q
stopped g (Spent k) h q = turns.part_spent g refl q
stopped g (Failed k) h q = absurd (h k refl)

no_more : (l : List ℕ) → length l ≡ 0 → l ≡ []
no_more [] e = refl
no_more (x ∷ xs) e = absurd (omega arith)

-- ---- inputs

pub inputs-returns-then-at-self : goal.inputs-returns-then-at-self
inputs-returns-then-at-self t c =
    let s = c.args.self.now in
    turns.at_end_lem (λ a. sets_on s.net.now Input a) (λ a. sets_on s.net.now Output a) s.trace.now c.args.at _ c.if-at-self.true c.requires.within c.requires.room c.at_end.ensures

pub inputs-loop-count-init : goal.inputs-loop-count-init
inputs-loop-count-init t c =
    let s = c.args.self.now in
    let here : c.args.at < length s.trace.now = omega (arith, c.if-at-self.false, c.requires.position) in
    record {
      few = rw c.sets-rest.ensures (turns.few_sets (get_or s.trace.now c.args.at 0) s.inputs_fit (s.activities_only c.args.at here));
      going = turns.begin c.requires.within (searching.search_inputs s.net.now s.trace.now c.args.at c.args.due.now here ∙ ap (inputs_left s.net.now s.trace.now c.args.at c.args.due.now) (sym c.sets-rest.ensures));
    }

pub inputs-split_at-requires : goal.inputs-split_at-requires
inputs-split_at-requires t c = rw c.next_possible.ensures (prefix_len-le-length _ _)

pub inputs-overflow_mul-pairs : goal.inputs-overflow_mul-pairs
inputs-overflow_mul-pairs t c =
    let s = c.args.self.now in
    let here : c.args.at < length s.trace.now = omega (arith, c.if-at-self.false, c.requires.position) in
    let n : ℕ = length c.split_at.result.0.now in
    let w : length c.sets.result.now ≤ 16 = rw c.sets.ensures (turns.few_sets (get_or s.trace.now c.args.at 0) s.outputs_fit (s.activities_only c.args.at here)) in
    let k : n ≤ 16 = omega (arith, c.loop-count.invariant.few, c.split_at.ensures.front_len, c.split_at.ensures.back_len) in
    let m = mul-le-mul_left n w in
    omega arith

pub inputs-returns-then-self-count : goal.inputs-returns-then-self-count
inputs-returns-then-self-count t c =
    let s = c.args.self.now in
    let g = c.loop-count.invariant.going in
    rw c.spent.ensures (turns.part_beyond (passed s.net.now s.trace.now c.args.at c.loop-count.rest.now c.next_possible.ensures g c.split_at.ensures.front_len (ap length c.sets.ensures)) _
    (omega (arith, laws.trials_failed (length c.split_at.result.0.now * length c.sets.result.now), g.high, c.if-self-count.true)))

pub inputs-returns-in_default : goal.inputs-returns-in_default
inputs-returns-in_default t c =
    let s = c.args.self.now in
    let g = counted s.net.now s.trace.now c.args.at c.loop-count.rest.now c.next_possible.ensures c.loop-count.invariant.going c.split_at.ensures.front_len (ap length c.sets.ensures) c.if-self-count.false in
    let none = sym c.split_at.ensures.back ∙ no_more _ c.in_default.ensures.cases in
    turns.inputs_done (λ d. search_lent s.net.now s.trace.now (c.args.at + 1) d) _ _ _ (rw none at g)

pub inputs-take-requires-clause-is_possible : goal.inputs-take-requires-clause-is_possible
inputs-take-requires-clause-is_possible t c = first_possible _ _ _ _ c.next_possible.ensures (sym c.split_at.ensures.back ∙ c.in-Some.ensures.cases.0)

pub inputs-outputs-tried-requires : goal.inputs-outputs-tried-requires
inputs-outputs-tried-requires t c =
    let s = c.args.self.now in
    let here : c.args.at < length s.trace.now = omega (arith, c.if-at-self.false, c.requires.position) in
    let g = c.loop-count.invariant.going in (
      omega (arith, c.decreases),
      (turns.room_same g.out_same c.requires.room, (here, (omega (arith, g.high, c.if-self-count.false), turns.state_taken _ _ g.due_same c.take.ensures c.requires.state))),
    )

pub inputs-undo_take-requires-clause-has_room : goal.inputs-undo_take-requires-clause-has_room
inputs-undo_take-requires-clause-has_room t c =
    let few = c.args.self.now.few_positions in
    rw c.outputs-tried.ensures.restores (state_le (omega (arith, c.requires.position)) (turns.state_taken _ _ c.loop-count.invariant.going.due_same c.take.ensures c.requires.state))

pub inputs-returns-in_default-tried : goal.inputs-returns-in_default-tried
inputs-returns-in_default-tried t c =
    let s = c.args.self.now in
    let first = c.next_possible.ensures in
    let g = counted s.net.now s.trace.now c.args.at c.loop-count.rest.now first c.loop-count.invariant.going c.split_at.ensures.front_len (ap length c.sets.ensures) c.if-self-count.false in
    let q = sym c.split_at.ensures.back ∙ c.in-Some.ensures.cases.0 in
    let r = c.outputs-tried.ensures in
    let u = undone s.net.now s.trace.now c.args.at c.loop-count.rest.now first q c.take.ensures r.restores c.undo_take.ensures in
    stopped (turn_at s.net.now s.trace.now c.args.at c.loop-count.rest.now first q c.take.ensures g) _ c.in_default-tried.not-Failed (restored r u)

pub inputs-loop-count-preserved : goal.inputs-loop-count-preserved
inputs-loop-count-preserved t c =
    let s = c.args.self.now in
    let first = c.next_possible.ensures in
    let g = counted s.net.now s.trace.now c.args.at c.loop-count.rest.now first c.loop-count.invariant.going c.split_at.ensures.front_len (ap length c.sets.ensures) c.if-self-count.false in
    let q = sym c.split_at.ensures.back ∙ c.in-Some.ensures.cases.0 in
    let r = c.outputs-tried.ensures in
    let u = undone s.net.now s.trace.now c.args.at c.loop-count.rest.now first q c.take.ensures r.restores c.undo_take.ensures in
    record {
      few = omega (arith, c.loop-count.invariant.few, c.split_at.ensures.back_len, c.in-Some.ensures.cases.1);
      going = turns.part_failed (turn_at s.net.now s.trace.now c.args.at c.loop-count.rest.now first q c.take.ensures g) c.in-Failed.is (restored r u);
    }

-- ---- outputs

pub outputs-returns-then-count-self : goal.outputs-returns-then-count-self
outputs-returns-then-count-self t c =
    let s = c.args.self.now in
    rw c.spent.ensures (turns.turn_beyond (λ d. search_lent s.net.now s.trace.now (c.args.at + 1) d) (get_or s.trace.now c.args.at 0) c.args.x c.loop-y.y-index _ _ c.loop-y-test.true (omega (arith, c.if-count-self.true)) c.loop-y.invariant)

pub outputs-inputs-next-requires : goal.outputs-inputs-next-requires
outputs-inputs-next-requires t c =
    let g = c.loop-y.invariant in (
      omega (arith, c.decreases, c.requires.position),
      (turns.room_same g.out_same c.requires.room, (omega (arith, c.requires.position), (omega (arith, g.high, c.if-count-self.false), turns.state_added _ _ g.due_same c.add.ensures c.requires.state))),
    )

pub outputs-undo_add-requires-clause-is_covered : goal.outputs-undo_add-requires-clause-is_covered
outputs-undo_add-requires-clause-is_covered t c =
    turns.covers-added _ _ (c.args.self.now.activities_only _ c.requires.position) c.loop-y.invariant.due_same c.add.ensures c.inputs-next.ensures.restores c.requires.state

pub outputs-returns-in-Found : goal.outputs-returns-in-Found
outputs-returns-in-Found t c =
    let s = c.args.self.now in
    let g = c.loop-y.invariant in
    let u = turns.undone_add _ _ c.add.ensures c.inputs-next.ensures.restores c.undo_add.ensures in
    turns.part_found (turns.turn_added (λ d. search_lent s.net.now s.trace.now (c.args.at + 1) d) (get_or s.trace.now c.args.at 0) c.args.x c.loop-y.y-index _ _ c.loop-y-test.true c.add.ensures g) c.in-Found.is
    (turns.pair_found s.net.now s.trace.now _ _ _ _ _ _ c.requires.position (turns.room_same g.out_same c.requires.room) c.in-Found.is c.inputs-next.ensures c.write_binding.ensures u)

pub outputs-returns-in-Spent : goal.outputs-returns-in-Spent
outputs-returns-in-Spent t c =
    let s = c.args.self.now in
    let u = turns.undone_add _ _ c.add.ensures c.inputs-next.ensures.restores c.undo_add.ensures in
    turns.part_spent (turns.turn_added (λ d. search_lent s.net.now s.trace.now (c.args.at + 1) d) (get_or s.trace.now c.args.at 0) c.args.x c.loop-y.y-index _ _ c.loop-y-test.true c.add.ensures c.loop-y.invariant) c.in-Spent.is
    (turns.pair_spent s.net.now s.trace.now _ _ _ _ _ _ c.in-Spent.is c.inputs-next.ensures u)

pub outputs-loop-y-preserved : goal.outputs-loop-y-preserved
outputs-loop-y-preserved t c =
    let s = c.args.self.now in
    let u = turns.undone_add _ _ c.add.ensures c.inputs-next.ensures.restores c.undo_add.ensures in
    turns.part_failed (turns.turn_added (λ d. search_lent s.net.now s.trace.now (c.args.at + 1) d) (get_or s.trace.now c.args.at 0) c.args.x c.loop-y.y-index _ _ c.loop-y-test.true c.add.ensures c.loop-y.invariant) c.in-Failed.is
    (turns.pair_failed s.net.now s.trace.now _ _ _ _ _ _ c.in-Failed.is c.inputs-next.ensures u)

pub outputs-returns : goal.outputs-returns
outputs-returns t c =
    let s = c.args.self.now in
    turns.outputs_done (λ d. search_lent s.net.now s.trace.now (c.args.at + 1) d) (get_or s.trace.now c.args.at 0) c.args.x c.loop-y.y-index _ _ (omega (arith, c.loop-y-test.false)) c.loop-y.invariant
