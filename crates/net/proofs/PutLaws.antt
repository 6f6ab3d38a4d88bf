-- Laws of put: it does to the sides of one kind what a put on a side does, and nothing else to the net; so an orderly net stays
-- orderly, gains exactly the set, grows by the value said, and keeps its counts. Assumes nothing.
use Prim.Native.Nat.{ℕ, ◌+◌, ◌<◌}
use native.Mathlib.Omega.{arith}
use mathlib.Core.Path.{◌≡◌, refl, sym, ◌∙◌}
use mathlib.Core.Bool.{Bool, true, false, cond}
use mathlib.Core.Logic.{◌⊎◌, inl, inr, ⊎_elim, ◌↔◌}
use Rattle.std.specs.Prelude.{Result}
use lib.Dec.{ltb}
use borrow.Author.Tests.{ltb-true, lt-ltb}
use Rattle.obligations.specs.Limits.{activities}
use Rattle.obligations.proofs.BoolLaws.{true_or_false, false-not-true}
use Rattle.net.specs.Refusals.{Says, refused, disorderly, no_activity}
use Rattle.net.specs.Sides.{sides_of, empty_at, count_of, OnSide, net_size}
use Rattle.net.specs.Orderly.{orderly}
use Rattle.net.specs.Put.{put_means, side_says, put_says, grows, grown_sides, with_sides, with_set, put_sides, put_gives, PutLeft}
use Rattle.net.specs.Inner.{placed_means, CountedDone}
use Rattle.net.specs.declared.Net.{Net}
use Rattle.net.specs.declared.sides.Side.{Side}
use Rattle.net.specs.declared.sides.Sides.{Sides}
use Rattle.net.specs.declared.refusal.Refusal.{Refusal}
use Rattle.net.specs.declared.refusal.Refused.{Refused}
use Rattle.net.specs.declared.putting.Placed.{Placed}
use Rattle.net.proofs.OrderlyLaws.{orderly_sides, orderly_counts}
use Rattle.net.proofs.WithSidesLaws.{with-cond, with_start, with_end, with_kinds, with_orderly, with_size}
use Rattle.net.proofs.PutSideLaws.{put_side-total, put_side_orderly, put_side_holds, put_side_counted, put_side_count}

-- ---- put and the sides of its kind

module _ (net : Net) (side : Side) (a m : ℕ) where
  pub put_says_side : orderly net ≡ true → a < activities → put_says net side a m ≡ side_says (sides_of net side) (empty_at net side) a m
  unfolding put_says
  put_says_side o h = rw (o, lt-ltb a activities h)

  -- the sides of that kind after it
  abbrev put : Sides
  put = put_sides (sides_of net side) (empty_at net side) a m

  pub put_gives_sides : orderly net ≡ true → a < activities → put_gives net side a m ≡ with_sides net side put
  unfolding put_gives put_sides
  put_gives_sides o h = rw (put_says_side o h) (with-cond net side (grows (side_says (sides_of net side) (empty_at net side) a m)) (grown_sides (sides_of net side) a m))

  pub put_done : (p : Result Placed Refusal) (r : Result Bool Refused) (sides : Sides) → orderly net ≡ true → a < activities → put_means r ≡ placed_means p
      → CountedDone (sides_of net side) (empty_at net side) a m p sides
      → PutLeft net side a m r (with_sides net side sides)
  put_done p r sides o h e d = record { says = e ∙ d.said.says ∙ sym (put_says_side o h); gives = rw d.sides_are (sym (put_gives_sides o h)) }

  -- ---- refused and accepted

  pub put_refused : (put_says net side a m).ok ≡ false → put_gives net side a m ≡ net
  unfolding put_gives grows
  put_refused d = rw d

  pub put_accepted : (put_says net side a m).ok ≡ true → (orderly net ≡ true) × (a < activities) × ((side_says (sides_of net side) (empty_at net side) a m).ok ≡ true)
  unfolding put_says
  put_accepted e =
      let f = parts (orderly net) (ltb a activities) (side_says (sides_of net side) (empty_at net side) a m) e in
      (f.0, ltb-true a activities f.1, f.2)
    where
      parts : (p q : Bool) (s : Says) → (cond p (cond q s (refused no_activity 0)) (refused disorderly 0)).ok ≡ true → (p ≡ true) × (q ≡ true) × (s.ok ≡ true)
      parts true true s e = (refl, refl, e)
      parts true false s e = absurd (false-not-true refl e)
      parts false q s e = absurd (false-not-true refl e)

  -- ---- what is kept

  grown_start : (with_set net side a m).start ≡ net.start
  grown_start = with_start net (grown_sides (sides_of net side) a m) side

  grown_end : (with_set net side a m).end ≡ net.end
  grown_end = with_end net (grown_sides (sides_of net side) a m) side

  pub put_start : (put_gives net side a m).start ≡ net.start
  unfolding put_gives
  put_start = ⊎_elim (λ g. rw g grown_start) (λ g. rw g) (true_or_false (grows (put_says net side a m)))

  pub put_end : (put_gives net side a m).end ≡ net.end
  unfolding put_gives
  put_end = ⊎_elim (λ g. rw g grown_end) (λ g. rw g) (true_or_false (grows (put_says net side a m)))

  pub put_orderly : orderly net ≡ true → orderly (put_gives net side a m) ≡ true
  put_orderly o = ⊎_elim kept (λ d. rw (put_refused d) o) (true_or_false (put_says net side a m).ok)
    where
      kept : (put_says net side a m).ok ≡ true → orderly (put_gives net side a m) ≡ true
      kept ok =
          let h = (put_accepted ok).1 in
          rw (put_gives_sides o h)
          (with_orderly net put side o (put_side_orderly (sides_of net side) (empty_at net side) a m (orderly_sides net o side) h)
          (put_side_counted (sides_of net side) (empty_at net side) a m (orderly_sides net o side) (orderly_counts net o side) h))

  -- ---- what is gained

  -- after an accepted put a side holds exactly what it held, and the one side the set too
  pub put_on_side : (put_says net side a m).ok ≡ true → (t : Side) (b x : ℕ) → OnSide (put_gives net side a m) t b x ↔ (OnSide net t b x ⊎ ((t ≡ side) × (b ≡ a) × (x ≡ m)))
  put_on_side ok t b x =
      let f = put_accepted ok in
      let holds = put_side_holds (sides_of net side) (empty_at net side) a m (orderly_sides net f.0 side) f.1 f.2 b x in
      rw (put_gives_sides f.0 f.1)
      (⊎_elim
      (λ e. (
        (λ i. ⊎_elim (λ w. inl (rw e.same w)) (λ w. inr (e.same, w.0, w.1)) (holds.0 (rw e.other_sides at i))),
        (λ w. rw e.other_sides (holds.1 (⊎_elim (λ i. inl (rw e.same at i)) (λ q. inr (q.1, q.2)) w))),
      ))
      (λ e. ((λ i. inl (rw e.own_sides at i)), (λ w. rw e.own_sides (⊎_elim (λ i. i) (λ q. absurd (e.differs q.0)) w))))
      (with_kinds net put side t))

  pub put_size : (put_says net side a m).ok ≡ true → net_size (put_gives net side a m) ≡ net_size net + (put_says net side a m).value
  put_size ok =
      let f = put_accepted ok in
      rw (put_gives_sides f.0 f.1, put_says_side f.0 f.1)
      (with_size net put side (side_says (sides_of net side) (empty_at net side) a m).value
      (put_side-total (sides_of net side) (empty_at net side) a m (omega (arith, (orderly_sides net f.0 side).lengths_long, f.1))))

  -- ---- the counts

  -- a put changes no count: a new set has 0, as a set that isn't there
  pub put_count : orderly net ≡ true → (t : Side) (b x : ℕ) → count_of (put_gives net side a m) t b x ≡ count_of net t b x
  put_count o t b x = ⊎_elim kept (λ d. rw (put_refused d)) (true_or_false (put_says net side a m).ok)
    where
      kept : (put_says net side a m).ok ≡ true → count_of (put_gives net side a m) t b x ≡ count_of net t b x
      kept ok =
          let h = (put_accepted ok).1 in
          rw (put_gives_sides o h)
          (⊎_elim
          (λ e. rw (e.other_sides, e.same) (put_side_count (sides_of net side) (empty_at net side) a m (orderly_sides net o side) (orderly_counts net o side) h b x))
          (λ e. rw e.own_sides)
          (with_kinds net put side t))
