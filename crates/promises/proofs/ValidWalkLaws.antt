-- 000, Theorem 1, for one sequence that is valid in a net: each of its activities is on a walk from start to end, since each
-- position but the first takes from an earlier one and each but the last adds what a later one takes; and what its sets name
-- occurs in it and names them back: what a position takes was added by the one it names, what it adds is taken by a later one.
-- Assumes nothing.
use Prim.Native.Nat.{ℕ, zero, suc, ◌+◌, ◌-◌, ◌^◌, ◌≤◌, ◌<◌}
use mathlib.Core.Path.{◌≡◌, refl, sym, subst}
use mathlib.Core.Bool.{true}
use mathlib.Core.List.{List}
use native.Mathlib.Decide.{ℕ_discrete as dec_eq}
use native.Mathlib.Omega.{arith}
use lib.ListN.{length}
use Rattle.obligations.specs.Sets.{member}
use Rattle.obligations.specs.Sequence.{at}
use Rattle.obligations.specs.declared.sequence.Binding.{Binding}
use Rattle.obligations.proofs.SetLaws.{member-activity}
use Rattle.obligations.proofs.MemberLaws.{some_member}
use Rattle.net.specs.Sides.{opposite, OnSide}
use Rattle.net.specs.Valid.{Valid}
use Rattle.net.specs.declared.Net.{Net}
use Rattle.net.specs.declared.sides.Side.{Side}
use Rattle.net.specs.declared.sides.Side.TheVariants.{Input, Output}
use Rattle.walks.specs.Arcs.{Names, Arc}
use Rattle.walks.specs.Walk.{here, along, Walk, OnWalk}
use Rattle.walks.proofs.AlongLaws.{along_one, along_join}
use Rattle.sequences.specs.Gain.{set_for}
use Rattle.promises.proofs.DueLaws.{Adds, Takes, due_added, added_taken}

-- each set of a sequence is a mask
abbrev pub SetsAreMasks : List Binding → Type 0
SetsAreMasks s = (side : Side) (i : ℕ) → i < length s → set_for side (at s i) < 2 ^ 32

-- an activity occurs in a sequence
pub record Occurs (s : List Binding) (a : ℕ) : Type 0 where
  pub position : ℕ
  pub inside : position < length s
  pub activity_is : (at s position).activity ≡ a

module _ (net : Net) (s : List Binding) (small : SetsAreMasks s) (v : Valid net s) where
  below : (i : ℕ) → i < length s → (at s i).activity < 32
  below i h = v.well_formed.activities_only i h

  -- what a position takes was added by an earlier one, and what it adds is taken by a later one
  from_earlier : (i p : ℕ) → i < length s → member (at s i).input p ≡ true → (j : ℕ) × (j < i) × Adds s p (at s i).activity j
  from_earlier i p h m =
      due_added s below p (at s i).activity (member-activity (at s i).input p (small Input i h) m) (below i h) i (omega arith) (v.well_formed.each_possible i h p (member-activity (at s i).input p (small Input i h) m) m)

  to_later : (i q : ℕ) → i < length s → member (at s i).output q ≡ true → (k : ℕ) × (i < k) × (k < length s) × Takes s (at s i).activity q k
  to_later i q h m =
      let a = (at s i).activity in
      added_taken s below a q (below i h) (member-activity (at s i).output q (small Output i h) m) (v.well_formed.nothing_left a q (below i h) (member-activity (at s i).output q (small Output i h) m)) i h (record { activity_is = refl; in_output = m })

  -- an arc joins one that adds to one that takes
  handed : (p q i j : ℕ) → i < length s → j < length s → Adds s p q i → Takes s p q j → Arc net p q
  handed p q i j hi hj a t = record {
    in_input = record { set = (at s j).input; on_side = subst (λ (b : ℕ). OnSide net Input b (at s j).input) t.activity_is (v.inputs_on_side j hj); in_set = t.in_input };
    in_output = record { set = (at s i).output; on_side = subst (λ (b : ℕ). OnSide net Output b (at s i).output) a.activity_is (v.outputs_on_side i hi); in_set = a.in_output };
  }

  -- each of fewer than n positions on is reached from the start
  reached : (n i : ℕ) → i < n → i < length s → Walk net net.start (at s i).activity
  reached zero i l h = absurd (omega arith)
  reached (suc n) zero l h = rw ((v.well_formed.shape.start_first_only 0 h).1 refl) here
  reached (suc n) (suc i) l h =
      let x = (at s (suc i)).input in
      let filled : x ≡ 0 → ⊥ = λ e. absurd (omega (arith, (v.well_formed.input_empty_first_only (suc i) h).0 e)) in
      let m = some_member x (omega arith) (small Input (suc i) h) in
      let w = from_earlier (suc i) m.0 h m.1 in
      along_join (reached n w.0 (omega (arith, w.1)) (omega (arith, w.1)))
      (along_one (subst (λ (p : ℕ). Arc net p (at s (suc i)).activity) (sym w.2.activity_is) (handed m.0 (at s (suc i)).activity w.0 (suc i) (omega (arith, w.1)) h w.2 (record { activity_is = refl; in_input = m.1 }))))

  -- the end is reached from each with fewer than n after it
  reaching : (n i : ℕ) → i < length s → length s ≤ i + n → Walk net (at s i).activity net.end
  reaching zero i h l = absurd (omega arith)
  reaching (suc n) i h l = elim (dec_eq (i + 1) (length s)) [
    | yes e ↦ rw ((v.well_formed.shape.end_last_only i h).1 e) here
    | no d ↦
        let y = (at s i).output in
        let filled : y ≡ 0 → ⊥ = λ e. d ((v.well_formed.output_empty_last_only i h).0 e) in
        let m = some_member y (omega arith) (small Output i h) in
        let w = to_later i m.0 h m.1 in
        along (handed (at s i).activity m.0 i w.0 h w.2 (record { activity_is = refl; in_output = m.1 }) w.3)
        (subst (λ (q : ℕ). Walk net q net.end) w.3.activity_is (reaching n w.0 w.2 (omega (arith, w.1))))
  ]

  pub occurring_on_walk : (a : ℕ) → Occurs s a → OnWalk net a
  occurring_on_walk a o = subst (OnWalk net) o.activity_is (record { from_start = reached (length s) o.position o.inside o.inside; to_end = reaching (length s) o.position o.inside (omega arith) })

  -- what is named in a set of the sequence occurs in it
  pub named_occurs : (side : Side) (i k : ℕ) → i < length s → member (set_for side (at s i)) k ≡ true → Occurs s k
  named_occurs Input i k h m = let w = from_earlier i k h m in record { position = w.0; inside = omega (arith, w.1); activity_is = w.2.activity_is }
  named_occurs Output i k h m = let w = to_later i k h m in record { position = w.0; inside = w.2; activity_is = w.3.activity_is }

  -- and names the position's activity back
  pub named_answers : (side : Side) (i k : ℕ) → i < length s → member (set_for side (at s i)) k ≡ true → Names net (opposite side) k (at s i).activity
  named_answers Input i k h m =
      let w = from_earlier i k h m in
      (handed k (at s i).activity w.0 i (omega (arith, w.1)) h w.2 (record { activity_is = refl; in_input = m })).in_output
  named_answers Output i k h m =
      let w = to_later i k h m in
      (handed (at s i).activity k i w.0 h w.2 (record { activity_is = refl; in_output = m }) w.3).in_input

  pub start_occurs : Occurs s net.start
  start_occurs =
      let h : 0 < length s = omega (arith, v.well_formed.shape.two) in
      record { position = 0; inside = h; activity_is = (v.well_formed.shape.start_first_only 0 h).1 refl }

  pub end_occurs : Occurs s net.end
  end_occurs =
      let h : length s - 1 < length s = omega (arith, v.well_formed.shape.two) in
      record { position = length s - 1; inside = h; activity_is = (v.well_formed.shape.end_last_only (length s - 1) h).1 (omega arith) }
