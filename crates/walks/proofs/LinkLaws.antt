-- The rows that are made of a net's sides are the net's arcs, and their members are as many as it has arcs: a union has what
-- is named in one of its sets, and rows with the same members are the same. A row of names has a member that the row of arcs lacks
-- exactly if that name isn't answered. Assumes nothing.
use Prim.Native.Nat.{ℕ, zero, suc, ◌^◌, ◌<◌}
use mathlib.Core.Path.{◌≡◌, refl, sym, ap, ap₂, ◌∙◌}
use mathlib.Core.Logic.{⊎_elim}
use mathlib.Core.Bool.{Bool, true, false, not, ◌&&◌, ◌||◌, and_comm}
use mathlib.Core.List.{List, [], ◌∷◌}
use native.Mathlib.Omega.{arith}
use borrow.Author.Tests.{lt-ltb}
use lib.Dec.{eqb, ltb, lit<}
use lib.ListN.{length, get_or}
use Rattle.obligations.specs.Tests.{number}
use Rattle.obligations.specs.Sets.{member, single, union, minus, size}
use Rattle.obligations.proofs.BoolLaws.{false-not-true, same_test, or_left, or_right, or_cases}
use Rattle.obligations.proofs.SetLaws.{member-single, member_union, member-minus, member-with, union_lt, minus_lt}
use Rattle.net.specs.Refusals.{accepted}
use Rattle.net.specs.Sides.{sides_of, lengths_of, opposite, sets_on}
use Rattle.net.specs.declared.Net.{Net}
use Rattle.net.specs.declared.sides.Side.{Side}
use Rattle.net.specs.declared.sides.Side.TheVariants.{Input, Output}
use Rattle.walks.specs.Below.{any_below, those}
use Rattle.walks.specs.Arcs.{named, names, arc, arcs}
use Rattle.walks.specs.Rows.{has, rows, reach}
use Rattle.walks.specs.Check.{on_sides, in_net, successors, predecessors, outside, lost, unanswered_on, unanswered, surveyed, pass_says}
use Rattle.walks.specs.Links.{union_of, named_rows, linked, links, unlinked, filled, sizes, RowSurvey}
use Rattle.walks.specs.declared.Survey.{Survey}
use Rattle.walks.proofs.BelowLaws.{any_true, true_any, any_ext, member_those_at, those_are, those_lt, sum_ext, size-those}
use Rattle.walks.proofs.RowLaws.{rows_long, rows_at, rows_all, rows_ext, has-row, member-union_of, sizes-rows}
use Rattle.walks.proofs.ReachLaws.{Small, reach_lt}

-- ---- named in one of the sets

pub named-at : (l : List ℕ) (k : ℕ) → named l k ≡ true → (i : ℕ) × (i < length l) × (member (get_or l i 0) k ≡ true)
unfolding named
named-at [] k e = absurd (false-not-true refl e)
named-at (m ∷ ms) k e = ⊎_elim (λ h. (0, omega arith, h)) (λ h. let w = named-at ms k h in (suc w.0, less w.1, w.2)) (or_cases (member m k) (named ms k) e)
  where
    less : {i : ℕ} → i < length ms → suc i < suc (length ms)
    less l = omega arith

pub at_named : (l : List ℕ) (k i : ℕ) → i < length l → member (get_or l i 0) k ≡ true → named l k ≡ true
unfolding named
at_named [] k i h e = absurd (omega arith)
at_named (m ∷ ms) k zero h e = or_left (named ms k) e
at_named (m ∷ ms) k (suc i) h e = or_right (member m k) (at_named ms k i (omega arith) e)

-- in one of the rows
named_rows_lem : (f : ℕ → ℕ) (k : ℕ) → named (rows f) k ≡ any_below 32 (λ b. member (f b) k)
named_rows_lem f k =
    same_test (named (rows f) k) (any_below 32 (λ b. member (f b) k))
    (λ e. let w = named-at (rows f) k e in let h : w.0 < 32 = omega (arith, w.1, rows_long f) in true_any (λ b. member (f b) k) 32 w.0 h (sym (ap (λ (m : ℕ). member m k) (rows_at f w.0 h)) ∙ w.2))
    (λ e. let w = any_true (λ b. member (f b) k) 32 e in at_named (rows f) k w.0 (rw (rows_long f) w.1) (ap (λ (m : ℕ). member m k) (rows_at f w.0 w.1) ∙ w.2))

-- ---- the rows of names

-- the rows of those named on a net's sides
abbrev pub rows_on : Net → Side → List ℕ
rows_on net side = named_rows (sides_of net side)

-- the activities with a set on a net's sides of one kind, with those named in one
abbrev pub set_on : Net → Side → ℕ
set_on net side = union (filled (lengths_of net side)) (union_of (rows_on net side))

-- the set of a net's activities
abbrev pub set_of : Net → ℕ
set_of net = union (union (single net.start) (single net.end)) (union (set_on net Input) (set_on net Output))

module _ (net : Net) where
  pub has_named : (side : Side) (a b : ℕ) → a < 32 → has (rows_on net side) a b ≡ names net side a b
  unfolding named_rows names
  has_named side a b h = has-row (λ c. union_of (sets_on net side c)) a b h ∙ member-union_of (sets_on net side a) b

  pub member_on_sides : (side : Side) (k : ℕ) → k < 32 → member (set_on net side) k ≡ on_sides net side k
  unfolding filled named_rows on_sides names
  member_on_sides side k h =
      member_union (those (λ a. not (eqb (get_or (lengths_of net side) a 0) 0))) (union_of (rows (λ a. union_of (sets_on net side a)))) k
      ∙ ap₂ (λ (s t : Bool). s || t) (member_those_at (λ a. not (eqb (get_or (lengths_of net side) a 0) 0)) k h)
      (member-union_of (rows (λ a. union_of (sets_on net side a))) k
      ∙ named_rows_lem (λ a. union_of (sets_on net side a)) k
      ∙ any_ext 32 (λ b. member (union_of (sets_on net side b)) k) (λ b. named (sets_on net side b) k) (λ b l. member-union_of (sets_on net side b) k))

  -- ---- the rows of arcs

  module _ (own other : Side) (test : ℕ → ℕ → Bool) (agree : (a b : ℕ) → names net own a b && names net other b a ≡ test a b) where
    link_row : (a : ℕ) → a < 32 → linked (get_or (rows_on net own) a 0) (rows_on net other) a ≡ those (λ b. test a b)
    unfolding linked has
    link_row a h =
        those_are (λ b. test a b) (those (λ b. member (get_or (rows_on net own) a 0) b && has (rows_on net other) b a)) (those_lt _)
        (λ b l. member_those_at (λ c. member (get_or (rows_on net own) a 0) c && has (rows_on net other) c a) b l
        ∙ ap₂ (λ (s t : Bool). s && t) (has_named own a b h) (has_named other b a l) ∙ agree a b)

    link_rows_lem : links (rows_on net own) (rows_on net other) ≡ rows (λ a. those (λ b. test a b))
    unfolding links
    link_rows_lem = rows_ext (λ a. linked (get_or (rows_on net own) a 0) (rows_on net other) a) (λ a. those (λ b. test a b)) link_row

  pub links_successors : links (rows_on net Output) (rows_on net Input) ≡ successors net
  unfolding successors arc
  links_successors = link_rows_lem Output Input (arc net) (λ a b. and_comm (names net Output a b) (names net Input b a))

  pub links_predecessors : links (rows_on net Input) (rows_on net Output) ≡ predecessors net
  unfolding predecessors arc
  links_predecessors = link_rows_lem Input Output (λ q p. arc net p q) (λ a b. refl)

  pub sizes_successors : sizes (successors net) ≡ arcs net
  unfolding successors arcs
  sizes_successors = sizes-rows (λ p. those (λ q. arc net p q)) ∙ sum_ext 32 (λ p. size (those (λ q. arc net p q))) (λ p. number 32 (λ q. arc net p q)) (λ p h. size-those (λ q. arc net p q))

  -- ---- names that aren't answered

  -- the rows of arcs from one kind of side
  abbrev pub links_on : Side → List ℕ
  links_on side = links (rows_on net side) (rows_on net (opposite side))

  has_link : (side : Side) (a b : ℕ) → a < 32 → b < 32 → has (links_on side) a b ≡ names net side a b && names net (opposite side) b a
  has_link side a b h l =
      ap (λ (r : List ℕ). has r a b) (link_rows_lem side (opposite side) (λ c d. names net side c d && names net (opposite side) d c) (λ c d. refl))
      ∙ has-row (λ c. those (λ d. names net side c d && names net (opposite side) d c)) a b h
      ∙ member_those_at (λ d. names net side a d && names net (opposite side) d a) b l

  member_unlinked : (side : Side) (a : ℕ) → a < 32 → member (unlinked (rows_on net side) (links_on side)) a ≡ unanswered_on net side a
  unfolding unlinked unanswered_on
  member_unlinked side a h =
      member_those_at (λ c. any_below 32 (λ b. has (rows_on net side) c b && not (has (links_on side) c b))) a h
      ∙ any_ext 32 (λ b. has (rows_on net side) a b && not (has (links_on side) a b)) (λ b. names net side a b && not (names net (opposite side) b a))
      (λ b l. ap₂ (λ (s t : Bool). s && not t) (has_named side a b h) (has_link side a b h l) ∙ unless_both (names net side a b) (names net (opposite side) b a))
    where
      unless_both : (s t : Bool) → s && not (s && t) ≡ s && not t
      unless_both true t = refl
      unless_both false t = refl

  unlinked_lt : (side : Side) → unlinked (rows_on net side) (links_on side) < 2 ^ 32
  unfolding unlinked
  unlinked_lt side = those_lt _

  pub unlinked_unanswered : union (unlinked (rows_on net Input) (links_on Input)) (unlinked (rows_on net Output) (links_on Output)) ≡ unanswered net
  unfolding unanswered
  unlinked_unanswered =
      let i = unlinked (rows_on net Input) (links_on Input) in
      let o = unlinked (rows_on net Output) (links_on Output) in
      those_are (λ a. unanswered_on net Input a || unanswered_on net Output a) (union i o) (union_lt i o (unlinked_lt Input) (unlinked_lt Output))
      (λ k l. member_union i o k ∙ ap₂ (λ (s t : Bool). s || t) (member_unlinked Input k l) (member_unlinked Output k l))

  pub unanswered_lt : unanswered net < 2 ^ 32
  unfolding unanswered
  unanswered_lt = those_lt _

  -- ---- the net's activities, and those outside one of two sets

  pub member_set_of : (k : ℕ) → k < 32 → net.start < 32 → net.end < 32 → member (set_of net) k ≡ in_net net k
  unfolding in_net
  member_set_of k h hs he =
      member_union (union (single net.start) (single net.end)) (union (set_on net Input) (set_on net Output)) k
      ∙ ap₂ (λ (s t : Bool). s || t)
      (member-with (single net.start) net.end k he ∙ ap (λ (t : Bool). t || eqb net.end k) (alone (lt-ltb net.start 32 hs)))
      (member_union (set_on net Input) (set_on net Output) k
      ∙ ap₂ (λ (s t : Bool). s || t) (member_on_sides Input k h) (member_on_sides Output k h))
    where
      alone : ltb net.start 32 ≡ true → member (single net.start) k ≡ eqb net.start k
      alone e = member-single net.start k ∙ rw e

  pub outside_are : (all from to : ℕ) → all < 2 ^ 32 → from < 2 ^ 32 → to < 2 ^ 32 → ((k : ℕ) → k < 32 → member all k ≡ in_net net k) → union (minus all from) (minus all to) ≡ outside net from to
  unfolding outside
  outside_are all from to ha hf ht e =
      those_are (λ a. in_net net a && not (member from a && member to a)) (union (minus all from) (minus all to)) (union_lt (minus all from) (minus all to) (minus_lt all from ha) (minus_lt all to ha))
      (λ k l. member_union (minus all from) (minus all to) k
      ∙ ap₂ (λ (s t : Bool). s || t) (member-minus all from k ha hf) (member-minus all to k ha ht)
      ∙ ap (λ (t : Bool). (t && not (member from k)) || (t && not (member to k))) (e k l)
      ∙ one_of (in_net net k) (member from k) (member to k))
    where
      one_of : (a f t : Bool) → (a && not f) || (a && not t) ≡ a && not (f && t)
      one_of true true t = refl
      one_of true false t = refl
      one_of false f t = refl

  pub lost_lt : lost net < 2 ^ 32
  unfolding lost outside
  lost_lt = those_lt _

  pub successors_small : Small (successors net)
  unfolding Small successors
  successors_small = rows_all (λ m. m < 2 ^ 32) (λ p. those (λ q. arc net p q)) (lit< tt) (λ p h. those_lt (λ q. arc net p q))

  pub predecessors_small : Small (predecessors net)
  unfolding Small predecessors
  predecessors_small = rows_all (λ m. m < 2 ^ 32) (λ q. those (λ p. arc net p q)) (lit< tt) (λ q h. those_lt (λ p. arc net p q))

  -- ---- what is found from the rows on the net's sides and the set of its activities is what the check says

  module _ (r : Survey) (h : set_of net < 2 ^ 32) (hs : net.start < 32) (he : net.end < 32) (w : RowSurvey (rows_on net Input) (rows_on net Output) net.start net.end (set_of net) r) where
    lost_found : r.lost ≡ lost net
    unfolding lost
    lost_found =
        w.lost_are
        ∙ ap₂ (λ (n p : List ℕ). union (minus (set_of net) (reach n net.start)) (minus (set_of net) (reach p net.end))) links_successors links_predecessors
        ∙ outside_are (set_of net) (reach (successors net) net.start) (reach (predecessors net) net.end) h (reach_lt (successors net) successors_small net.start) (reach_lt (predecessors net) predecessors_small net.end) (λ k l. member_set_of k l hs he)

    found_says : surveyed r.lost r.unanswered (accepted r.arcs) ≡ pass_says net
    found_says = rw (lost_found, w.unanswered_are ∙ unlinked_unanswered, w.arcs_are ∙ ap sizes links_successors ∙ sizes_successors)

  pub rows_say : {inputs outputs : List ℕ} {all : ℕ} {r : Survey} → inputs ≡ rows_on net Input → outputs ≡ rows_on net Output → all ≡ set_of net
      → all < 2 ^ 32 → net.start < 32 → net.end < 32 → RowSurvey inputs outputs net.start net.end all r → surveyed r.lost r.unanswered (accepted r.arcs) ≡ pass_says net
  rows_say {inputs} {outputs} {all} {r} i o e h hs he w = found_says r (rw e at h) hs he (rw (i, o, e) at w)
