-- What the check computes of an orderly net is what the facts say: its rows are its arcs, reach along them is its walks, and the
-- test of its activities is right. An arc joins activities, since a number above 31 has no sets. Assumes nothing.
use Prim.Native.Nat.{ℕ, ◌<◌}
use mathlib.Core.Path.{◌≡◌, sym, ◌∙◌}
use mathlib.Core.Logic.{◌↔◌, ⊎_elim}
use mathlib.Core.Bool.{true, not, ◌&&◌, ◌||◌}
use native.Mathlib.Omega.{arith}
use borrow.Author.Tests.{eq-eqb, eqb-true, eqb-false, not-true}
use lib.Dec.{eqb}
use lib.ListN.{get_or}
use Rattle.obligations.specs.Sets.{member}
use Rattle.obligations.proofs.BoolLaws.{true_or_false, false-not-true, and_left, and_right, and_both, or_left, or_right, or_cases}
use Rattle.obligations.proofs.SetLaws.{lt_or_le}
use Rattle.net.specs.Sides.{lengths_of, sets_on, OnSide}
use Rattle.net.specs.Orderly.{orderly}
use Rattle.net.specs.declared.Net.{Net}
use Rattle.net.specs.declared.sides.Side.{Side}
use Rattle.net.specs.declared.sides.Side.TheVariants.{Input, Output}
use Rattle.net.proofs.OrderlyLaws.{orderly_facts, on_side_activity, sets_length}
use Rattle.walks.specs.Below.{any_below}
use Rattle.walks.specs.Arcs.{Names, Arc, names, arc}
use Rattle.walks.specs.Walk.{Walk, InNet, the_start, the_end, with_a_set, in_a_set, OnWalk}
use Rattle.walks.specs.Rows.{Has, reach}
use Rattle.walks.specs.Check.{on_sides, in_net, successors, predecessors}
use Rattle.walks.proofs.BelowLaws.{any_true, true_any}
use Rattle.net.proofs.ListLaws.{some_listed, empty_lists_none}
use Rattle.walks.proofs.AlongLaws.{along-map, along_back}
use Rattle.walks.proofs.RowLaws.{rows-past, has-those}
use Rattle.walks.proofs.ReachLaws.{reach_is}
use Rattle.walks.proofs.LinkLaws.{successors_small, predecessors_small}
use Rattle.walks.proofs.ArcLaws.{names_facts, arc_facts}

module _ (net : Net) (o : orderly net ≡ true) where
  -- ---- arcs

  pub names_activity : (side : Side) (a k : ℕ) → Names net side a k → a < 32
  names_activity side a k n = on_side_activity net o side a n.set n.on_side

  pub arc_activities : (p q : ℕ) → Arc net p q → (p < 32) × (q < 32)
  arc_activities p q a = (names_activity Output p q a.in_output, names_activity Input q p a.in_input)

  pub successors_arcs : (p q : ℕ) → Has (successors net) p q ↔ Arc net p q
  unfolding successors
  successors_arcs p q = (
    (λ h. (arc_facts net p q).0 ((has-those (arc net) p q).0 h).2),
    (λ a. let l = arc_activities p q a in (has-those (arc net) p q).1 (l.0, l.1, (arc_facts net p q).1 a)),
  )

  pub predecessors_arcs : (q p : ℕ) → Has (predecessors net) q p ↔ Arc net p q
  unfolding predecessors
  predecessors_arcs q p = (
    (λ h. (arc_facts net p q).0 ((has-those (λ b a. arc net a b) q p).0 h).2),
    (λ a. let l = arc_activities p q a in (has-those (λ b a. arc net a b) q p).1 (l.1, l.0, (arc_facts net p q).1 a)),
  )

  -- ---- walks

  pub reach_from_start : (k : ℕ) → (member (reach (successors net) net.start) k ≡ true) ↔ Walk net net.start k
  reach_from_start k =
      let r = reach_is (successors net) (successors_small net) net.start (orderly_facts net o).start_activity k in
      ((λ e. along-map (λ p q. (successors_arcs p q).0) (r.0 e)), (λ w. r.1 (along-map (λ p q. (successors_arcs p q).1) w)))

  pub reach_to_end : (k : ℕ) → (member (reach (predecessors net) net.end) k ≡ true) ↔ Walk net k net.end
  reach_to_end k =
      let r = reach_is (predecessors net) (predecessors_small net) net.end (orderly_facts net o).end_activity k in
      ((λ e. along_back (λ q p. (predecessors_arcs q p).0) (r.0 e)), (λ w. r.1 (along_back (λ p q. (predecessors_arcs q p).1) w)))

  pub on_walk_facts : (k : ℕ) → (member (reach (successors net) net.start) k && member (reach (predecessors net) net.end) k ≡ true) ↔ OnWalk net k
  on_walk_facts k =
      let f = member (reach (successors net) net.start) k in
      let t = member (reach (predecessors net) net.end) k in (
        (λ e. record { from_start = (reach_from_start k).0 (and_left f t e); to_end = (reach_to_end k).0 (and_right f t e) }),
        (λ w. and_both ((reach_from_start k).1 w.from_start) ((reach_to_end k).1 w.to_end)),
      )

  -- ---- the net's activities

  has_set : (side : Side) (a : ℕ) → not (eqb (get_or (lengths_of net side) a 0) 0) ≡ true → (m : ℕ) × OnSide net side a m
  has_set side a e =
      let some = eqb-false (get_or (lengths_of net side) a 0) 0 (not-true (eqb (get_or (lengths_of net side) a 0) 0) e) in
      let h : a < 32 = ⊎_elim (λ l. l) (λ l. absurd (some (rows-past (lengths_of net side) a (omega (arith, (orderly_facts net o).lengths_long side))))) (lt_or_le a 32) in
      some_listed (sets_on net side a) (omega (arith, sets_length net o side a h))

  set_has : (side : Side) (a m : ℕ) → OnSide net side a m → not (eqb (get_or (lengths_of net side) a 0) 0) ≡ true
  set_has side a m h =
      ⊎_elim
      (λ e. absurd (false-not-true (empty_lists_none (sets_on net side a) m (sets_length net o side a (on_side_activity net o side a m h) ∙ eqb-true (get_or (lengths_of net side) a 0) 0 e)) h))
      (λ e. rw e) (true_or_false (eqb (get_or (lengths_of net side) a 0) 0))

  sides_in : (side : Side) (a : ℕ) → a < 32 → on_sides net side a ≡ true → InNet net a
  unfolding on_sides
  sides_in side a l e =
      ⊎_elim (λ h. let w = has_set side a h in with_a_set side w.0 w.1) (λ h. let w = any_true (λ b. names net side b a) 32 h in in_a_set side w.0 l ((names_facts net side w.0 a).0 w.2))
      (or_cases (not (eqb (get_or (lengths_of net side) a 0) 0)) (any_below 32 (λ b. names net side b a)) e)

  on_either : (side : Side) (a : ℕ) → on_sides net side a ≡ true → in_net net a ≡ true
  unfolding in_net
  on_either Input a e = or_right (eqb net.start a || eqb net.end a) (or_left (on_sides net Output a) e)
  on_either Output a e = or_right (eqb net.start a || eqb net.end a) (or_right (on_sides net Input a) e)

  test_in : (a : ℕ) → a < 32 → in_net net a ≡ true → InNet net a
  unfolding in_net
  test_in a l e =
      ⊎_elim
      (λ h. ⊎_elim (λ q. the_start (sym (eqb-true net.start a q))) (λ q. the_end (sym (eqb-true net.end a q))) (or_cases (eqb net.start a) (eqb net.end a) h))
      (λ h. ⊎_elim (sides_in Input a l) (sides_in Output a l) (or_cases (on_sides net Input a) (on_sides net Output a) h))
      (or_cases (eqb net.start a || eqb net.end a) (on_sides net Input a || on_sides net Output a) e)

  in_test : (a : ℕ) → InNet net a → in_net net a ≡ true
  unfolding in_net on_sides
  in_test a (the_start e) = or_left (on_sides net Input a || on_sides net Output a) (or_left (eqb net.end a) (eq-eqb net.start a (sym e)))
  in_test a (the_end e) = or_left (on_sides net Input a || on_sides net Output a) (or_right (eqb net.start a) (eq-eqb net.end a (sym e)))
  in_test a (with_a_set side m h) = on_either side a (or_left (any_below 32 (λ b. names net side b a)) (set_has side a m h))
  in_test a (in_a_set side b l n) =
      on_either side a
      (or_right (not (eqb (get_or (lengths_of net side) a 0) 0)) (true_any (λ c. names net side c a) 32 b (names_activity side b a n) ((names_facts net side b a).1 n)))

  pub in_net_facts : (a : ℕ) → a < 32 → (in_net net a ≡ true) ↔ InNet net a
  in_net_facts a l = (test_in a l, in_test a)
