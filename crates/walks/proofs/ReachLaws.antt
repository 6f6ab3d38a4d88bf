-- Reach is exactly what steps lead to. Sound: each round adds only what is one step on from what was there. Complete: a round
-- that adds nothing leaves a closed set, and a round that adds has one member more, which 32 rounds cannot all do. A closed
-- set that has the first has all that steps lead to. Assumes nothing.
use Prim.Native.Nat.{ℕ, zero, suc, ◌+◌, ◌^◌, ◌≤◌, ◌<◌}
use mathlib.Core.Path.{◌≡◌, refl, sym, ap, subst, ◌∙◌}
use mathlib.Core.Logic.{◌↔◌, ◌⊎◌, inl, inr, ⊎_elim}
use mathlib.Core.Bool.{true, false}
use Rattle.std.proofs.Common.{fold}
use mathlib.Core.List.Memᴰ
use mathlib.Core.List.{List, [], ◌∷◌, Memᴰ}
use native.Mathlib.Decide.{ℕ_discrete as dec_eq}
use native.Mathlib.Omega.{arith}
use borrow.Author.Tests.{eqb-true}
use lib.Count.{count_trailing_zeros}
use lib.Dec.{eqb, lit<}
use lib.ListN.{get_or}
use Rattle.obligations.specs.Sets.{member, single, union, minus, members, size}
use Rattle.obligations.proofs.BoolLaws.{false-not-true, same_test, or_left, or_right, or_cases}
use Rattle.obligations.proofs.SetLaws.{member_none, member-activity, member_union, member-with, single_lt, union_lt, set_ext, single-has, single_only, minus_some, minus_lt, minus-member}
use Rattle.obligations.proofs.LowestLaws.{lowest_activity, lowest_member_lem}
use Rattle.obligations.proofs.MemberLaws.{members_are, size_none, size_le}
use Rattle.walks.specs.Arcs.{named}
use Rattle.walks.specs.Walk.{Along, here}
use Rattle.walks.specs.Rows.{has, Has, rows_at, one_round, rounds, reach}
use Rattle.walks.proofs.BelowLaws.{size_lt}
use Rattle.walks.proofs.AlongLaws.{along_one, along_join, along_kept}
use Rattle.walks.proofs.RowLaws.{member-union_from}

-- the set is closed: it has all that are one step on from its members
unfoldable pub Closed : List ℕ → ℕ → Type 0
Closed next s = (p q : ℕ) → member s p ≡ true → Has next p q → member s q ≡ true

-- every row is a set
unfoldable pub Small : List ℕ → Type 0
Small next = (a : ℕ) → get_or next a 0 < 2 ^ 32

module _ (next : List ℕ) where
  named_rows_lem : (ks : List ℕ) (j : ℕ) → named (rows_at next ks) j ≡ true → (k : ℕ) × Memᴰ k ks × Has next k j
  unfolding named has
  named_rows_lem [] j e = absurd (false-not-true refl e)
  named_rows_lem (k ∷ ks) j e = ⊎_elim (λ h. (k, Memᴰ.head refl, h)) (λ h. let w = named_rows_lem ks j h in (w.0, Memᴰ.tail w.1, w.2)) (or_cases (member (get_or next k 0) j) (named (rows_at next ks) j) e)

  rows_named : (ks : List ℕ) (k j : ℕ) → Memᴰ k ks → Has next k j → named (rows_at next ks) j ≡ true
  unfolding named has
  rows_named [] k j i e = absurd (Memᴰ.not-nil i)
  rows_named (x ∷ ks) k j i e = ⊎_elim (λ q. or_left (named (rows_at next ks) j) (subst (λ (a : ℕ). member (get_or next a 0) j ≡ true) q e)) (λ t. or_right (member (get_or next x 0) j) (rows_named ks k j t e)) (Memᴰ.cases_cons i)

  -- ---- one round

  module _ (seen : ℕ) where
    pub round_keeps : (k : ℕ) → member seen k ≡ true → member (one_round next seen) k ≡ true
    unfolding one_round
    round_keeps k e = member-union_from seen (rows_at next (members seen)) k ∙ or_left (named (rows_at next (members seen)) k) e

    pub round_adds : seen < 2 ^ 32 → (p q : ℕ) → member seen p ≡ true → Has next p q → member (one_round next seen) q ≡ true
    unfolding one_round
    round_adds h p q e s = member-union_from seen (rows_at next (members seen)) q ∙ or_right (member seen q) (rows_named (members seen) p q ((members_are seen p).1 (member-activity seen p h e, e)) s)

    pub round_only : (k : ℕ) → member (one_round next seen) k ≡ true → (member seen k ≡ true) ⊎ ((p : ℕ) × (member seen p ≡ true) × Has next p k)
    unfolding one_round
    round_only k e =
        ⊎_elim inl (λ t. let w = named_rows_lem (members seen) k t in inr (w.0, ((members_are seen w.0).0 w.1).1, w.2))
        (or_cases (member seen k) (named (rows_at next (members seen)) k) (sym (member-union_from seen (rows_at next (members seen)) k) ∙ e))

  module _ (small : Small next) where
    spread_lt : (m : ℕ) (ks : List ℕ) → m < 2 ^ 32 → fold union m (rows_at next ks) < 2 ^ 32
    unfolding Small
    spread_lt m [] h = h
    spread_lt m (k ∷ ks) h = spread_lt (union m (get_or next k 0)) ks (union_lt m (get_or next k 0) h (small k))

    round_lt : (seen : ℕ) → seen < 2 ^ 32 → one_round next seen < 2 ^ 32
    unfolding one_round
    round_lt seen h = spread_lt seen (members seen) h

    -- ---- all rounds

    rounds_lt : (n seen : ℕ) → seen < 2 ^ 32 → rounds n next seen < 2 ^ 32
    unfolding rounds
    rounds_lt zero seen h = h
    rounds_lt (suc n) seen h = rounds_lt n (one_round next seen) (round_lt seen h)

    rounds_keep : (n seen k : ℕ) → member seen k ≡ true → member (rounds n next seen) k ≡ true
    unfolding rounds
    rounds_keep zero seen k e = e
    rounds_keep (suc n) seen k e = rounds_keep n (one_round next seen) k (round_keeps seen k e)

    -- sound: what is in the set after the rounds is steps away from the first
    rounds_sound : (from n seen : ℕ) → ((k : ℕ) → member seen k ≡ true → Along (Has next) from k) → (k : ℕ) → member (rounds n next seen) k ≡ true → Along (Has next) from k
    unfolding rounds
    rounds_sound from zero seen s k e = s k e
    rounds_sound from (suc n) seen s k e =
        rounds_sound from n (one_round next seen)
        (λ j t. ⊎_elim (λ u. s j u) (λ w. along_join (s w.0 w.1) (along_one w.2)) (round_only seen j t)) k e

    rounds_still : (n seen : ℕ) → one_round next seen ≡ seen → rounds n next seen ≡ seen
    unfolding rounds
    rounds_still zero seen e = refl
    rounds_still (suc n) seen e = ap (rounds n next) e ∙ rounds_still n seen e

    -- after n rounds a further one adds nothing, or each of them has added a member
    rounds_fill : (n seen : ℕ) → seen < 2 ^ 32 → (one_round next (rounds n next seen) ≡ rounds n next seen) ⊎ (size seen + n ≤ size (rounds n next seen))
    unfolding rounds
    rounds_fill zero seen h = inr (omega arith)
    rounds_fill (suc n) seen h = go (dec_eq seen (one_round next seen)) (rounds_fill n (one_round next seen) (round_lt seen h))
      where
        go : Dec (seen ≡ one_round next seen)
            → (one_round next (rounds n next (one_round next seen)) ≡ rounds n next (one_round next seen)) ⊎ (size (one_round next seen) + n ≤ size (rounds n next (one_round next seen)))
            → (one_round next (rounds n next (one_round next seen)) ≡ rounds n next (one_round next seen)) ⊎ (size seen + suc n ≤ size (rounds n next (one_round next seen)))
        go (yes e) w =
            let s : rounds n next (one_round next seen) ≡ seen = ap (rounds n next) (sym e) ∙ rounds_still n seen (sym e) in
            inl (ap (one_round next) s ∙ sym e ∙ sym s)
        go (no d) (inl q) = inl q
        go (no d) (inr q) = let l = size_lt seen (one_round next seen) h (round_lt seen h) (round_keeps seen) d in inr (omega arith)

    -- ---- reach

    pub reach_lt : (from : ℕ) → reach next from < 2 ^ 32
    unfolding reach
    reach_lt from = rounds_lt _ (single from) (single_lt from)

    module _ (from : ℕ) (activity : from < 32) where
      one : 0 < size (single from)
      one = rw size_none at (size_lt 0 (single from) (lit< tt) (single_lt from) (λ k t. absurd (false-not-true (member_none k) t)) (λ z. false-not-true (member_none from) (subst (λ (m : ℕ). member m from ≡ true) (sym z) (single-has from activity))))

      pub reach_first : member (reach next from) from ≡ true
      unfolding reach
      reach_first = rounds_keep _ (single from) from (single-has from activity)

      -- a further round adds nothing, since a set has at most 32 members
      reach_still : one_round next (reach next from) ≡ reach next from
      unfolding reach
      reach_still = ⊎_elim (λ e. e) (λ l. absurd (omega (arith, one, size_le (reach next from)))) (rounds_fill _ (single from) (single_lt from))

      pub reach_closed : Closed next (reach next from)
      unfolding Closed
      reach_closed p q e s = subst (λ (m : ℕ). member m q ≡ true) reach_still (round_adds (reach next from) (reach_lt from) p q e s)

      pub reach_sound : (k : ℕ) → member (reach next from) k ≡ true → Along (Has next) from k
      unfolding reach
      reach_sound k e = rounds_sound from _ (single from) (λ j t. subst (Along (Has next) from) (single_only from j t) here) k e

      -- a closed set that has the first has all that steps lead to
      pub closed_has : (s : ℕ) → Closed next s → member s from ≡ true → (k : ℕ) → Along (Has next) from k → member s k ≡ true
      unfolding Closed
      closed_has s c e k w = along_kept (λ j. member s j ≡ true) (λ p q t m. c p q m t) w e

      pub reach_is : (k : ℕ) → (member (reach next from) k ≡ true) ↔ Along (Has next) from k
      reach_is k = (reach_sound k, closed_has (reach next from) reach_closed reach_first k)

      -- a closed set that has the first, and only what steps lead to, is reach
      pub reach_unique : (s : ℕ) → s < 2 ^ 32 → Closed next s → member s from ≡ true → ((k : ℕ) → member s k ≡ true → Along (Has next) from k) → s ≡ reach next from
      reach_unique s h c e o = set_ext s (reach next from) h (reach_lt from) (λ k l. same_test (member s k) (member (reach next from) k) (λ t. (reach_is k).1 (o k t)) (λ t. closed_has s c e k (reach_sound k t)))

-- ---- the search that looks at each activity once

-- what is seen and what is done: all seen are steps away from the first, and all one step on from what is done are seen
pub record Search (next : List ℕ) (from seen done : ℕ) : Type 0 where
  pub seen_small : seen < 2 ^ 32
  pub done_small : done < 2 ^ 32
  pub first_seen : member seen from ≡ true
  pub led_to : (k : ℕ) → member seen k ≡ true → Along (Has next) from k
  pub done_seen : (k : ℕ) → member done k ≡ true → member seen k ≡ true
  pub next_seen : (p q : ℕ) → member done p ≡ true → Has next p q → member seen q ≡ true

module _ (next : List ℕ) (from : ℕ) where
  pub search_first : from < 32 → Search next from (single from) 0
  search_first h = record {
    seen_small = single_lt from;
    done_small = lit< tt;
    first_seen = single-has from h;
    led_to = λ k e. subst (Along (Has next) from) (single_only from k e) here;
    done_seen = λ k e. absurd (false-not-true (member_none k) e);
    next_seen = λ p q e s. absurd (false-not-true (member_none p) e);
  }

  module _ (seen done : ℕ) (s : Search next from seen done) where
    -- something is seen and not done
    search_open : (done ≡ seen → ⊥) → 0 < minus seen done
    search_open ne = minus_some done seen s.done_small s.seen_small s.done_seen ne

    -- the lowest of those is an activity
    pub search_lowest : (m : ℕ) → m ≡ minus seen done → (done ≡ seen → ⊥)
        → (count_trailing_zeros 32 m < 32) × (member seen (count_trailing_zeros 32 m) ≡ true) × (member done (count_trailing_zeros 32 m) ≡ false)
    search_lowest m e ne =
        let some = search_open ne in
        let small = minus_lt seen done s.seen_small in
        let f = minus-member seen done (count_trailing_zeros 32 (minus seen done)) s.seen_small s.done_small (lowest_member_lem (minus seen done) some small) in
        rw e (lowest_activity (minus seen done) some small, f.0, f.1)

    pub search_next : (a : ℕ) → a < 32 → get_or next a 0 < 2 ^ 32 → member seen a ≡ true → Search next from (union seen (get_or next a 0)) (union done (single a))
    unfolding has
    search_next a h small e = record {
      seen_small = union_lt seen (get_or next a 0) s.seen_small small;
      done_small = union_lt done (single a) s.done_small (single_lt a);
      first_seen = still from s.first_seen;
      led_to = λ k t.
          ⊎_elim (λ u. s.led_to k u) (λ u. along_join (s.led_to a e) (along_one u))
          (or_cases (member seen k) (member (get_or next a 0) k) (sym (member_union seen (get_or next a 0) k) ∙ t));
      done_seen = λ k t. still k (⊎_elim (λ u. s.done_seen k u) (λ u. subst (λ (j : ℕ). member seen j ≡ true) u e) (done_cases k t));
      next_seen = λ p q t u.
          ⊎_elim (λ v. still q (s.next_seen p q v u))
          (λ v. member_union seen (get_or next a 0) q ∙ or_right (member seen q) (subst (λ (j : ℕ). member (get_or next j 0) q ≡ true) (sym v) u)) (done_cases p t);
    }
      where
        still : (k : ℕ) → member seen k ≡ true → member (union seen (get_or next a 0)) k ≡ true
        still k t = member_union seen (get_or next a 0) k ∙ or_left (member (get_or next a 0) k) t

        done_cases : (k : ℕ) → member (union done (single a)) k ≡ true → (member done k ≡ true) ⊎ (a ≡ k)
        done_cases k t = ⊎_elim inl (λ u. inr (eqb-true a k u)) (or_cases (member done k) (eqb a k) (sym (member-with done a k h) ∙ t))

    pub search_end : from < 32 → Small next → done ≡ seen → seen ≡ reach next from
    unfolding Closed
    search_end h small q = reach_unique next small from h seen s.seen_small (λ p r e t. s.next_seen p r (subst (λ (m : ℕ). member m p ≡ true) (sym q) e) t) s.first_seen s.led_to
