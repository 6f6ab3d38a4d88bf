-- The loop that gains a sequence's sets and counts their uses: what holds where some positions are left, one position more, and its
-- ways out. What is still to be gained into the net so far is what is to be gained into the net given. Assumes nothing.
use Prim.Native.Nat.{ℕ, suc, ◌+◌, ◌*◌, ◌≤◌, ◌<◌}
use mathlib.Core.Path.{◌≡◌, refl, sym, ap, ◌∙◌}
use mathlib.Core.Bool.{Bool, true, false, cond}
use mathlib.Core.List.{List, [], ◌∷◌}
use mathlib.Core.Logic.{⊎_elim}
use native.Mathlib.Omega.{arith}
use borrow.Author.Tests.{eq-eqb, ne_eqb}
use lib.Dec.{ltb}
use lib.ListN.{length, get_or}
use Rattle.std.proofs.Common.{Result, Ok, Err}
use Rattle.obligations.specs.Limits.{activities}
use Rattle.obligations.specs.Tests.{indicator}
use Rattle.obligations.specs.declared.sequence.Binding.{Binding}
use Rattle.obligations.proofs.BoolLaws.{true_or_false, false-not-true}
use Rattle.net.specs.Limits.{places, most_uses}
use Rattle.net.specs.Refusals.{Says, accepted, refused, refusal_number}
use Rattle.net.specs.Sides.{with_counts, net_size, place_on}
use Rattle.net.specs.Inner.{OrderlySides, CountedDone}
use Rattle.net.specs.Orderly.{orderly}
use Rattle.net.specs.Put.{side_says, put_sides}
use Rattle.net.specs.declared.Net.{Net}
use Rattle.net.specs.declared.putting.Placed.{Placed}
use Rattle.net.specs.declared.refusal.Refusal.{Refusal}
use Rattle.net.specs.declared.refusal.Refusal.TheVariants.{FullSide}
use Rattle.net.specs.declared.sides.Sides.{Sides}
use Rattle.net.specs.declared.sides.Side.TheVariants.{Input, Output}
use Rattle.net.proofs.PutSideLaws.{place_below, put_side_refused, put_side-total, side_value}
use Rattle.net.proofs.OrderlyLaws.{orderly_sides}
use Rattle.sequences.specs.Gain.{raised_at, topped_at, used_sides, topped_counts, with_use, takes_put, topped_use, with_binding, takes_binding, topped_binding, gained, fits, topped}
use Rattle.sequences.specs.Learn.{gain_says, new_sets}
use Rattle.sequences.specs.Inner.{gained_by, SetGained}
use Rattle.sequences.specs.declared.gaining.Added.{Added}
use Rattle.sequences.proofs.UseLaws.{used_orderly}
use Rattle.sequences.proofs.GrowthLaws.{Activities}

-- ---- what a set adds

no_room : (says : Says) (tops : ℕ) (e : Refusal) → ◌≡◌ {A = Result Added Refusal} (Err e) (gained_by says tops) → (says.ok ≡ false) × (e ≡ FullSide)
unfolding gained_by
no_room says tops e q = go says.ok q
  where
    go : (t : Bool) → ◌≡◌ {A = Result Added Refusal} (Err e) (cond t (Ok (record { sets = says.value; topped = tops })) (Err FullSide)) → (t ≡ false) × (e ≡ FullSide)
    go true q = cc
    go false q = (refl, cc)

took : (says : Says) (tops : ℕ) (x : Added) → ◌≡◌ {A = Result Added Refusal} (Ok x) (gained_by says tops) → (says.ok ≡ true) × (x.sets ≡ says.value) × (x.topped ≡ tops)
unfolding gained_by
took says tops x q = go says.ok q
  where
    go : (t : Bool) → ◌≡◌ {A = Result Added Refusal} (Ok x) (cond t (Ok (record { sets = says.value; topped = tops })) (Err FullSide)) → (t ≡ true) × (x.sets ≡ says.value) × (x.topped ≡ tops)
    go true q = (refl, cc, cc)
    go false q = cc

one_topped : (counts : List ℕ) (i : ℕ) → topped_at counts i ≤ 1
unfolding topped_at
one_topped counts i = ⊎_elim (λ t. rw t (omega arith)) (λ t. rw t (omega arith)) (true_or_false (ltb (get_or counts i 0) most_uses))

-- ---- what a put and a raise leave

module _ (sides : Sides) (empty a m : ℕ) where
  abbrev side_answer : Says
  side_answer = side_says sides empty a m

  module _ (p : Placed) (put : Sides) (d : CountedDone sides empty a m (Ok p) put) where
    accepts : side_answer.ok ≡ true
    accepts = ap (λ (s : Says). s.ok) (sym d.said.says)

    pub raise_below : OrderlySides sides empty → a < activities → p.at < places
    raise_below o h = omega (arith, d.said.place_is p refl, place_below sides empty a m o h accepts)

    pub gained_set : (tops : ℕ) (counts : List ℕ) → tops ≡ topped_at put.counts p.at → counts ≡ raised_at put.counts p.at
        → SetGained sides empty a m (Ok (record { sets = indicator p.new; topped = tops })) (with_counts put counts)
    unfolding gained_by
    gained_set tops counts t c =
        let q : p.at ≡ place_on sides a m = d.said.place_is p refl in
        record { adds = rw (← d.said.says, t, d.sides_are, q); taken = λ ok. rw (c, d.sides_are, q); stayed = λ f. absurd (false-not-true f accepts) }

  pub gained_none : (e : Refusal) (put : Sides) → CountedDone sides empty a m (Err e) put → SetGained sides empty a m (Err FullSide) put
  unfolding gained_by
  gained_none e put d =
      let f : side_answer.ok ≡ false = ap (λ (s : Says). s.ok) (sym d.said.says) in
      record { adds = rw f; taken = λ ok. absurd (false-not-true f ok); stayed = λ g. d.sides_are ∙ put_side_refused sides empty a m g }

  -- what a set leaves of its side, where it was taken
  module _ (x : Added) (sides' : Sides) (d : SetGained sides empty a m (Ok x) sides') where
    taken : (side_answer.ok ≡ true) × (x.sets ≡ side_answer.value) × (x.topped ≡ topped_counts sides empty a m)
    taken = took side_answer (topped_counts sides empty a m) x d.adds

    pub takes : side_answer.ok ≡ true
    takes = taken.0

    pub one_set : x.sets ≤ 1
    one_set = omega (arith, taken.1, side_value sides empty a m)

    pub one_top : x.topped ≤ 1
    one_top = omega (arith, taken.2, one_topped (put_sides sides empty a m).counts (place_on sides a m))

    used_are : sides' ≡ used_sides sides empty a m
    used_are = d.taken taken.0

    still_orderly : OrderlySides sides empty → a < activities → OrderlySides sides' empty
    still_orderly o h = rw used_are (used_orderly sides empty a m o h)

-- ---- the loop

-- where `rest` is left of the positions: the net so far, the number of sets added and of counts that couldn't be raised
pub record Gaining (net : Net) (s : List Binding) (now : Net) (rest : List Binding) (new tops : ℕ) : Type 0 where
  pub inputs_orderly : OrderlySides now.inputs now.start
  pub outputs_orderly : OrderlySides now.outputs now.end
  pub activities_only : Activities rest
  pub gained_rest : gained net s ≡ gained now rest
  pub fits_rest : fits net s ≡ fits now rest
  pub topped_rest : topped net s ≡ tops + topped now rest
  pub grown : net_size now ≡ net_size net + new
  pub bounded : new + 2 * length rest ≤ 2 * length s
  pub few_tops : tops + 2 * length rest ≤ 2 * length s

pub gaining_start : (net : Net) (s rest : List Binding) → rest ≡ s → orderly net ≡ true → Activities s → Gaining net s net rest 0 0
gaining_start net s rest e o low = rw e (record {
  inputs_orderly = orderly_sides net o Input;
  outputs_orderly = orderly_sides net o Output;
  activities_only = low;
  gained_rest = refl;
  fits_rest = refl;
  topped_rest = omega arith;
  grown = omega arith;
  bounded = omega arith;
  few_tops = omega arith;
})

module _ (net : Net) (s : List Binding) (now : Net) (rest : List Binding) (new tops : ℕ) (g : Gaining net s now rest new tops) where
  -- at the end
  module _ (e : rest ≡ []) where
    pub all_gained : gained net s ≡ now
    unfolding gained
    all_gained = g.gained_rest ∙ ap (gained now) e

    all_fit : fits net s ≡ true
    unfolding fits
    all_fit = g.fits_rest ∙ ap (fits now) e

    all_topped : topped net s ≡ tops
    unfolding topped
    all_topped = omega (arith, g.topped_rest, ap (topped now) e)

    pub gain_topped : (tops ≡ 0 → ⊥) → refused 21 0 ≡ gain_says net s
    gain_topped z = rw (all_fit, ne_eqb (topped net s) 0 (λ t. z (sym all_topped ∙ t)))

    pub gain_done : tops ≡ 0 → accepted new ≡ gain_says net s
    gain_done z =
        let n : new ≡ new_sets net s = omega (arith, g.grown, ap net_size all_gained) in
        rw (all_fit, eq-eqb (topped net s) 0 (all_topped ∙ z)) (ap accepted n)

  -- at one position more
  module _ (b : Binding) (rest' : List Binding) (e : rest ≡ b ∷ rest') where
    pub gaining_activity : b.activity < activities
    gaining_activity = (rw e at g.activities_only) 0 (omega arith)

    pub no_input_room : (r : Refusal) (inputs : Sides) → SetGained now.inputs now.start b.activity b.input (Err r) inputs → refused (refusal_number r) 0 ≡ gain_says net s
    unfolding fits takes_binding takes_put
    no_input_room r inputs d =
        let f = no_room _ _ r d.adds in
        let n : fits net s ≡ false = g.fits_rest ∙ ap (fits now) e ∙ rw f.0 in
        rw (f.1, n)

    module _ (x : Added) (inputs : Sides) (dx : SetGained now.inputs now.start b.activity b.input (Ok x) inputs) where
      pub no_output_room : (r : Refusal) (outputs : Sides) → SetGained now.outputs now.end b.activity b.output (Err r) outputs → refused (refusal_number r) 0 ≡ gain_says net s
      unfolding fits takes_binding takes_put with_use
      no_output_room r outputs d =
          let f = no_room _ _ r d.adds in
          let n : fits net s ≡ false = g.fits_rest ∙ ap (fits now) e ∙ rw (takes now.inputs now.start b.activity b.input x inputs dx, f.0) in
          rw (f.1, n)

      module _ (y : Added) (outputs : Sides) (dy : SetGained now.outputs now.end b.activity b.output (Ok y) outputs) where
        abbrev next : Net
        next = record { start = now.start; end = now.end; inputs = inputs; outputs = outputs }

        next_is : next ≡ with_binding now b
        unfolding with_binding with_use
        next_is =
            let p = used_are now.inputs now.start b.activity b.input x inputs dx in
            let q = used_are now.outputs now.end b.activity b.output y outputs dy in
            λ j. record { start = now.start; end = now.end; inputs = p j; outputs = q j }

        pub gaining_next : Gaining net s next rest' (new + (x.sets + y.sets)) (tops + (x.topped + y.topped))
        unfolding gained fits topped with_binding takes_binding topped_binding takes_put topped_use with_use
        gaining_next =
            let tx = taken now.inputs now.start b.activity b.input x inputs dx in
            let ty = taken now.outputs now.end b.activity b.output y outputs dy in
            let xs = one_set now.inputs now.start b.activity b.input x inputs dx in
            let ys = one_set now.outputs now.end b.activity b.output y outputs dy in
            let xt = one_top now.inputs now.start b.activity b.input x inputs dx in
            let yt = one_top now.outputs now.end b.activity b.output y outputs dy in
            let n : length rest ≡ length rest' + 1 = ap length e ∙ omega arith in
            record {
              inputs_orderly = still_orderly now.inputs now.start b.activity b.input x inputs dx g.inputs_orderly gaining_activity;
              outputs_orderly = still_orderly now.outputs now.end b.activity b.output y outputs dy g.outputs_orderly gaining_activity;
              activities_only = λ i h. (rw e at g.activities_only) (suc i) (omega arith);
              gained_rest = g.gained_rest ∙ ap (gained now) e ∙ ap (λ (k : Net). gained k rest') (sym next_is);
              fits_rest = g.fits_rest ∙ ap (fits now) e ∙ rw (tx.0, ty.0) (ap (λ (k : Net). fits k rest') (sym next_is));
              topped_rest = omega (arith, g.topped_rest, ap (topped now) e, ap (λ (k : Net). topped k rest') next_is, tx.2, ty.2);
              grown =
                  omega (arith, g.grown, ap net_size next_is, tx.1, ty.1, put_side-total now.inputs now.start b.activity b.input (omega (arith, g.inputs_orderly.lengths_long, gaining_activity)), put_side-total now.outputs now.end b.activity b.output (omega (arith, g.outputs_orderly.lengths_long, gaining_activity)));
              bounded = omega (arith, g.bounded);
              few_tops = omega (arith, g.few_tops);
            }
