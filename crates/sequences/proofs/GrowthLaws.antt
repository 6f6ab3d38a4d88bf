-- The net after it gained one position's sets: it is orderly, has the same start and end and no fewer sets, and each side holds
-- exactly what it held and what the position has for it. Beside the counts each use is one of `net`'s puts, so its laws carry over. Of
-- the counts a put changes none, and the raise behind it adds one to its set's, if that is below its top. A whole
-- sequence takes no set away. Assumes nothing.
use Prim.Native.Nat.{ℕ, suc, ◌+◌, ◌≤◌, ◌<◌}
use mathlib.Core.Path.{◌≡◌, refl, sym, ap, ◌∙◌}
use mathlib.Core.Bool.{true, ◌&&◌}
use mathlib.Core.List.{List, [], ◌∷◌}
use mathlib.Core.Logic.{◌↔◌, ◌⊎◌, inl, inr, ⊎_elim}
use native.Mathlib.Omega.{arith}
use lib.Dec.{eqb}
use lib.ListN.{length}
use Rattle.obligations.specs.Tests.{indicator}
use Rattle.obligations.specs.State.{total}
use Rattle.obligations.specs.Sequence.{at}
use Rattle.obligations.specs.declared.sequence.Binding.{Binding}
use Rattle.obligations.proofs.BoolLaws.{and_left, and_right, true_or_false}
use Rattle.net.specs.Limits.{most_uses}
use Rattle.net.specs.Lists.{listed}
use Rattle.net.specs.Sides.{sides_of, empty_at, opposite, sets_in, counts_in, sets_on, counts_on, count_in, count_of, OnSide, net_size, place_on}
use Rattle.net.specs.Inner.{OrderlySides}
use Rattle.net.specs.Orderly.{orderly}
use Rattle.net.specs.Put.{put_says, put_sides, with_sides, put_gives}
use Rattle.net.specs.Contained.{Contained}
use Rattle.net.specs.declared.Net.{Net}
use Rattle.net.specs.declared.sides.Side.{Side}
use Rattle.net.specs.declared.sides.Sides.{Sides}
use Rattle.net.specs.declared.sides.Side.TheVariants.{Input, Output}
use Rattle.net.proofs.SideLaws.{OrderlyCounts}
use Rattle.net.proofs.OrderlyLaws.{orderly_sides, orderly_counts}
use Rattle.net.proofs.PutSideLaws.{put_side_orderly, put_side_counted, put_side_holds, put_side_count, put_side_sum, place_kept}
use Rattle.net.proofs.WithSidesLaws.{with_start, with_end, with_own, with_orderly}
use Rattle.net.proofs.PutLaws.{put_says_side, put_gives_sides, put_refused, put_on_side, put_size}
use Rattle.net.proofs.ContainedLaws.{contained_trans, put-contained}
use Rattle.sequences.specs.Gain.{raised_at, topped_at, used_sides, with_use, takes_put, topped_use, with_binding, takes_binding, topped_binding, gained, fits, set_for}
use Rattle.sequences.proofs.JoinLaws.{set_first, only_set, SetsGained}
use Rattle.sequences.proofs.UseLaws.{raised_orderly, topped_exactly, raised_count, raised_sum, used_orderly}

-- ---- one use

module _ (net : Net) (side : Side) (a m : ℕ) (o : orderly net ≡ true) (h : a < 32) where
  abbrev put : Sides
  put = put_sides (sides_of net side) (empty_at net side) a m

  abbrev used : Sides
  used = used_sides (sides_of net side) (empty_at net side) a m

  -- beside the counts it is a put
  put_is : put_gives net side a m ≡ with_sides net side put
  put_is = put_gives_sides net side a m o h

  same_sets : (t : Side) (b : ℕ) → sets_on (with_use net side a m) t b ≡ sets_on (put_gives net side a m) t b
  unfolding with_use
  same_sets t b = rw put_is (go side t)
    where
      go : (r t : Side) → sets_on (with_sides net r used) t b ≡ sets_on (with_sides net r put) t b
      go Input Input = refl
      go Input Output = refl
      go Output Input = refl
      go Output Output = refl

  takes_put_lem : takes_put net side a m ≡ (put_says net side a m).ok
  unfolding takes_put
  takes_put_lem = sym (ap (λ s. s.ok) (put_says_side net side a m o h))

  sides_after : OrderlySides put (empty_at net side)
  sides_after = put_side_orderly (sides_of net side) (empty_at net side) a m (orderly_sides net o side) h

  counts_after : OrderlyCounts put
  counts_after = put_side_counted (sides_of net side) (empty_at net side) a m (orderly_sides net o side) (orderly_counts net o side) h

  -- the set is on its side, at the place where it was put
  there : takes_put net side a m ≡ true → listed m (sets_in put a) ≡ true
  unfolding takes_put
  there k = (put_side_holds (sides_of net side) (empty_at net side) a m (orderly_sides net o side) h k a m).1 (inr (refl, refl))

  kept_place : place_on put a m ≡ place_on (sides_of net side) a m
  kept_place = place_kept (sides_of net side) (empty_at net side) a m (orderly_sides net o side) h

  used_counts : used.counts ≡ raised_at put.counts (place_on put a m)
  used_counts = rw kept_place

  -- a put that isn't accepted leaves nothing to raise
  used_counted : takes_put net side a m ≡ true → OrderlyCounts used
  used_counted k = rw used_counts (raised_orderly put (empty_at net side) a m sides_after counts_after h (there k))

  module _ (k : takes_put net side a m ≡ true) where
    said : (put_says net side a m).ok ≡ true
    said = sym takes_put_lem ∙ k

    with_use_orderly : orderly (with_use net side a m) ≡ true
    unfolding with_use
    with_use_orderly = with_orderly net used side o (used_orderly (sides_of net side) (empty_at net side) a m (orderly_sides net o side) h) (used_counted k)

    with_use_on_side : (t : Side) (b x : ℕ) → OnSide (with_use net side a m) t b x ↔ (OnSide net t b x ⊎ ((t ≡ side) × (b ≡ a) × (x ≡ m)))
    with_use_on_side t b x = rw (same_sets t b) (put_on_side net side a m said t b x)

  with_use_contained : Contained net (with_use net side a m)
  unfolding with_use
  with_use_contained = record {
    same_start = sym (with_start net used side);
    same_end = sym (with_end net used side);
    among = λ t b x l i. rw (same_sets t b) ((put-contained net side a m).among t b x l i);
  }

  -- no use takes a set away
  with_use_size : net_size net ≤ net_size (with_use net side a m)
  unfolding with_use
  with_use_size =
      ⊎_elim (λ k. omega (arith, same, put_size net side a m k)) (λ k. omega (arith, same, ap net_size (put_refused net side a m k)))
      (true_or_false (put_says net side a m).ok)
    where
      go : (r : Side) → net_size (with_sides net r used) ≡ net_size (with_sides net r put)
      go Input = refl
      go Output = refl

      same : net_size (with_sides net side used) ≡ net_size (put_gives net side a m)
      same = go side ∙ sym (ap net_size put_is)

  -- ---- its count

  after_put : (b x : ℕ) → count_in x (sets_in put b) (counts_in put b) ≡ count_of net side b x
  after_put b x = put_side_count (sides_of net side) (empty_at net side) a m (orderly_sides net o side) (orderly_counts net o side) h b x

  module _ (k : takes_put net side a m ≡ true) where
    topped_is : topped_use net side a m ≡ topped_at put.counts (place_on put a m)
    unfolding topped_use
    topped_is = rw kept_place

    -- it could be raised exactly if it was below its top
    topped_use_lem : (topped_use net side a m ≡ 0) ↔ (count_of net side a m < most_uses)
    topped_use_lem =
        let f = topped_exactly put (empty_at net side) a m sides_after counts_after h (there k) in (
          (λ z. rw (after_put a m) at (f.0 (sym topped_is ∙ z))),
          (λ l. topped_is ∙ f.1 (rw (after_put a m) l)),
        )

    module _ (z : topped_use net side a m ≡ 0) where
      clear : topped_at put.counts (place_on put a m) ≡ 0
      clear = sym topped_is ∙ z

      with_use_count : (b x : ℕ) → count_of (with_use net side a m) side b x ≡ count_of net side b x + indicator (eqb a b && eqb m x)
      unfolding with_use
      with_use_count b x =
          rw (with_own net used side, used_counts)
          (raised_count put (empty_at net side) a m sides_after counts_after h (there k) clear b x ∙ rw (after_put b x))

      with_use_sum : (b : ℕ) → total (counts_on (with_use net side a m) side b) ≡ total (counts_on net side b) + indicator (eqb a b)
      unfolding with_use
      with_use_sum b =
          rw (with_own net used side, used_counts)
          (raised_sum put (empty_at net side) a m sides_after counts_after h (there k) clear b
          ∙ rw (put_side_sum (sides_of net side) (empty_at net side) a m (orderly_sides net o side) (orderly_counts net o side) h b))

-- a use leaves the sides of the other kind as they are
other_count : (net : Net) (side : Side) (a m b x : ℕ) → count_of (with_use net side a m) (opposite side) b x ≡ count_of net (opposite side) b x
unfolding with_use
other_count net Input a m b x = refl
other_count net Output a m b x = refl

other_sum : (net : Net) (side : Side) (a m b : ℕ) → total (counts_on (with_use net side a m) (opposite side) b) ≡ total (counts_on net (opposite side) b)
unfolding with_use
other_sum net Input a m b = refl
other_sum net Output a m b = refl

-- ---- one position

module _ (net : Net) (b : Binding) (o : orderly net ≡ true) (h : b.activity < 32) where
  abbrev between : Net
  between = with_use net Input b.activity b.input

  module _ (k : takes_binding net b ≡ true) where
    takes_input : takes_put net Input b.activity b.input ≡ true
    unfolding takes_binding
    takes_input = and_left (takes_put net Input b.activity b.input) (takes_put between Output b.activity b.output) k

    takes_output : takes_put between Output b.activity b.output ≡ true
    unfolding takes_binding
    takes_output = and_right (takes_put net Input b.activity b.input) (takes_put between Output b.activity b.output) k

    between_orderly : orderly between ≡ true
    between_orderly = with_use_orderly net Input b.activity b.input o h takes_input

    pub with_binding_orderly : orderly (with_binding net b) ≡ true
    unfolding with_binding
    with_binding_orderly = with_use_orderly between Output b.activity b.output between_orderly h takes_output

    pub with_binding_contained : Contained net (with_binding net b)
    unfolding with_binding
    with_binding_contained =
        contained_trans net between (with_use between Output b.activity b.output) (with_use_contained net Input b.activity b.input o h) (with_use_contained between Output b.activity b.output between_orderly h)

    with_binding_size : net_size net ≤ net_size (with_binding net b)
    unfolding with_binding
    with_binding_size = omega (arith, with_use_size net Input b.activity b.input o h, with_use_size between Output b.activity b.output between_orderly h)

    pub with_binding_sets : SetsGained net (b ∷ []) (with_binding net b)
    unfolding with_binding
    with_binding_sets t a m =
        let ix = with_use_on_side net Input b.activity b.input o h takes_input t a m in
        let iy = with_use_on_side between Output b.activity b.output between_orderly h takes_output t a m in (
          (λ p. ⊎_elim (λ q. ⊎_elim inl (λ w. inr (set_first t b [] (sym w.1) (of_input t w.0 ∙ sym w.2))) (ix.0 q)) (λ w. inr (set_first t b [] (sym w.1) (of_output t w.0 ∙ sym w.2))) (iy.0 p)),
          (λ p. ⊎_elim (λ n. iy.1 (inl (ix.1 (inl n)))) (λ f. let w = only_set t b f in own t ix iy w.0 w.1) p),
        )
      where
        of_input : (t : Side) → t ≡ Input → set_for t b ≡ b.input
        of_input t e = rw e

        of_output : (t : Side) → t ≡ Output → set_for t b ≡ b.output
        of_output t e = rw e

        own : (t : Side) → OnSide between t a m ↔ (OnSide net t a m ⊎ ((t ≡ Input) × (a ≡ b.activity) × (m ≡ b.input)))
            → OnSide (with_use between Output b.activity b.output) t a m ↔ (OnSide between t a m ⊎ ((t ≡ Output) × (a ≡ b.activity) × (m ≡ b.output)))
            → b.activity ≡ a → set_for t b ≡ m → OnSide (with_use between Output b.activity b.output) t a m
        own Input ix iy ea em = iy.1 (inl (ix.1 (inr (refl, sym ea, sym em))))
        own Output ix iy ea em = iy.1 (inr (refl, sym ea, sym em))

    -- both counts could be raised exactly if they were below their tops
    pub topped_binding_lem : (topped_binding net b ≡ 0) ↔ ((t : Side) → count_of net t b.activity (set_for t b) < most_uses)
    unfolding topped_binding
    topped_binding_lem =
        let x = topped_use_lem net Input b.activity b.input o h takes_input in
        let y = topped_use_lem between Output b.activity b.output between_orderly h takes_output in
        let e = other_count net Input b.activity b.input b.activity b.output in (
          (λ z. elim [ Input ↦ x.0 (omega arith) | Output ↦ rw e at (y.0 (omega arith)) ]),
          (λ f. omega (arith, x.1 (f Input), y.1 (rw e (f Output)))),
        )

    module _ (z : topped_binding net b ≡ 0) where
      input_clear : topped_use net Input b.activity b.input ≡ 0
      unfolding topped_binding
      input_clear = omega arith

      output_clear : topped_use between Output b.activity b.output ≡ 0
      unfolding topped_binding
      output_clear = omega arith

      pub with_binding_count : (t : Side) (a m : ℕ) → count_of (with_binding net b) t a m ≡ count_of net t a m + indicator (eqb b.activity a && eqb (set_for t b) m)
      unfolding with_binding
      with_binding_count Input a m =
          other_count between Output b.activity b.output a m ∙ with_use_count net Input b.activity b.input o h takes_input input_clear a m
      with_binding_count Output a m =
          with_use_count between Output b.activity b.output between_orderly h takes_output output_clear a m ∙ rw (other_count net Input b.activity b.input a m)

      pub with_binding_sum : (t : Side) (a : ℕ) → total (counts_on (with_binding net b) t a) ≡ total (counts_on net t a) + indicator (eqb b.activity a)
      unfolding with_binding
      with_binding_sum Input a =
          other_sum between Output b.activity b.output a ∙ with_use_sum net Input b.activity b.input o h takes_input input_clear a
      with_binding_sum Output a =
          with_use_sum between Output b.activity b.output between_orderly h takes_output output_clear a ∙ rw (other_sum net Input b.activity b.input a)

-- ---- a sequence

-- each activity is below 32
abbrev pub Activities : List Binding → Type 0
Activities s = (i : ℕ) → i < length s → (at s i).activity < 32

-- the first position fits, and the others after it
pub fits-first : (net : Net) (b : Binding) (s : List Binding) → fits net (b ∷ s) ≡ true → takes_binding net b ≡ true
unfolding fits
fits-first net b s f = and_left (takes_binding net b) (fits (with_binding net b) s) f

pub fits_rest : (net : Net) (b : Binding) (s : List Binding) → fits net (b ∷ s) ≡ true → fits (with_binding net b) s ≡ true
unfolding fits
fits_rest net b s f = and_right (takes_binding net b) (fits (with_binding net b) s) f

pub gained-size : (net : Net) (s : List Binding) → orderly net ≡ true → Activities s → fits net s ≡ true → net_size net ≤ net_size (gained net s)
unfolding gained
gained-size net [] o h f = omega arith
gained-size net (b ∷ s) o h f =
    let k = fits-first net b s f in
    omega (arith, with_binding_size net b o (h 0 (omega arith)) k, gained-size (with_binding net b) s (with_binding_orderly net b o (h 0 (omega arith)) k) (λ i l. h (suc i) (omega arith)) (fits_rest net b s f))
