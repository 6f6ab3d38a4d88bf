-- Fresh, put and containment answer as their refusals are listed: each test of a call's chain fails exactly where its sentence
-- holds. Assumes nothing.
use Prim.Native.Nat.{ℕ, zero, suc, ◌<◌}
use native.Mathlib.Decide.{ℕ_discrete as dec_eq}
use native.Mathlib.Omega.{arith}
use mathlib.Core.Path.{◌≡◌, refl}
use mathlib.Core.Bool.{Bool, true, false, not, ◌||◌, cond}
use mathlib.Core.List.{[], ◌∷◌}
use mathlib.Core.Logic.{◌↔◌, ◌⊎◌, inl, inr, ⊎_elim}
use lib.Dec.{eqb, ltb}
use lib.ListN.{get_or}
use borrow.Author.Tests.{lt-ltb, eqb-true, eqb-false, eq-eqb, ne_eqb, ltb-true, ltb-false, not-true, not-false}
use Rattle.obligations.specs.Limits.{activities}
use Rattle.obligations.specs.Tests.{indicator}
use Rattle.obligations.proofs.BoolLaws.{true_or_false, false-not-true}
use Rattle.net.specs.Limits.{sets}
use Rattle.net.specs.Refusals.{Says, accepted, refused, bad_ends, disorderly, no_activity, misplaced_set, full_side}
use Rattle.net.specs.Sentences.{AsListed}
use Rattle.net.specs.Lists.{listed, distinct, AtMost}
use Rattle.net.specs.Sides.{sides_of, lengths_of, empty_at, sets_on, OnSide}
use Rattle.net.specs.Orderly.{Orderly, ends_ok, orderly}
use Rattle.net.specs.Fresh.{BadEnds, fresh_refusals, fresh_says}
use Rattle.net.specs.Put.{Exceeds, Misplaced, put_refusals, misplaced, side_says, put_says}
use Rattle.net.specs.Contained.{of_two, contained_refusals, contained, contained_says}
use Rattle.net.specs.declared.Net.{Net}
use Rattle.net.specs.declared.sides.Side.{Side}
use Rattle.net.proofs.SentenceLaws.{Told, passed, stopped, told_end, whole_link, chain_listed}
use Rattle.net.proofs.OrderlyLaws.{ends_facts, facts_ends, orderly_facts, sets_length, orderly_at_most, orderly_sides}
use Rattle.net.proofs.SideLaws.{plain_side_ok, side_just_empty}
use Rattle.net.proofs.ListLaws.{listed-first, listed-later, head_or_later}
use Rattle.net.proofs.CommonLaws.{orderly_some, orderly_link}
use Rattle.net.proofs.DistinctLaws.{distinct_one, distinct_more, ascending-distinct, at_most-listed}

-- ---- fresh

ends_none : (start end : ℕ) → ends_ok start end ≡ true → BadEnds start end → ⊥
ends_none start end e b =
    let f = ends_facts start end e in ⊎_elim (λ h. omega (arith, f.0)) (λ c. ⊎_elim (λ h. omega (arith, f.1)) (λ h. f.2 h) c) b

ends_some : (start end : ℕ) → ends_ok start end ≡ false → BadEnds start end
ends_some start end e = go (true_or_false (ltb start activities)) (true_or_false (ltb end activities)) (true_or_false (eqb start end))
  where
    go : (ltb start activities ≡ true) ⊎ (ltb start activities ≡ false) → (ltb end activities ≡ true) ⊎ (ltb end activities ≡ false) → (eqb start end ≡ true) ⊎ (eqb start end ≡ false) → BadEnds start end
    go (inr a) b c = inl (ltb-false start activities a)
    go (inl a) (inr b) c = inr (inl (ltb-false end activities b))
    go (inl a) (inl b) (inl c) = inr (inr (eqb-true start end c))
    go (inl a) (inl b) (inr c) = absurd (false-not-true e (facts_ends start end (ltb-true start activities a) (ltb-true end activities b) (eqb-false start end c)))

pub fresh-told : (start end : ℕ) → Told refused (fresh_refusals start end) (accepted 0) (fresh_says start end)
unfolding fresh_says
fresh-told start end =
    whole_link refused (accepted 0) bad_ends (BadEnds start end) [] (ends_ok start end) (accepted 0) (ends_none start end) (ends_some start end) (λ e. told_end refused (accepted 0))

pub fresh-listed : (start end : ℕ) → AsListed refused (fresh_refusals start end) (fresh_says start end)
fresh-listed start end = chain_listed (fresh_refusals start end) refl 0 (fresh-told start end)

-- ---- put

pub misplaced_exactly : (net : Net) (side : Side) (a m : ℕ) → (misplaced (empty_at net side) a m ≡ true) ↔ Misplaced net side a m
unfolding misplaced
misplaced_exactly net side a m = elim (dec_eq m 0) [
  | yes e ↦ (
    (λ t. inl (e, eqb-false a (empty_at net side) (not-true (eqb a (empty_at net side)) (rw (eq-eqb m 0 e) at t)))),
    (λ w. rw (eq-eqb m 0 e) (⊎_elim (λ v. rw (ne_eqb a (empty_at net side) v.1)) (λ v. absurd (v.0 e)) w)),
  )
  | no d ↦ (
    (λ t. inr (d, eqb-true a (empty_at net side) (rw (ne_eqb m 0 d) at t))),
    (λ w. rw (ne_eqb m 0 d) (⊎_elim (λ v. absurd (d v.0)) (λ v. eq-eqb a (empty_at net side) v.1) w)),
  )
]

module _ (net : Net) (o : orderly net ≡ true) (side : Side) (a : ℕ) (h : a < activities) where
  -- a side holds no set twice
  pub side_distinct : distinct (sets_on net side a) ≡ true
  side_distinct = elim (dec_eq a (empty_at net side)) [
    | yes e ↦ rw (side_just_empty (sides_of net side) (empty_at net side) (orderly_sides net o side) a h e) (distinct_one 0)
    | no d ↦ ascending-distinct 0 (sets_on net side a) (plain_side_ok (sides_of net side) (empty_at net side) (orderly_sides net o side) a h d).0
  ]

  -- a side has at most 16 sets
  pub few_on_side : AtMost sets (OnSide net side a)
  few_on_side = (at_most-listed sets (OnSide net side a) (sets_on net side a) side_distinct (λ m. ((λ i. i), (λ i. i)))).0 (omega (arith, sets_length net o side a h, orderly_at_most net o side a h))

  -- how many sets a side has together with m
  pub room_exactly : (m : ℕ) → (listed m (sets_on net side a) || not (eqb (get_or (lengths_of net side) a 0) sets) ≡ true) ↔ AtMost sets (λ x. OnSide net side a x ⊎ (x ≡ m))
  room_exactly m = elim (true_or_false (listed m (sets_on net side a))) [
    | inl t ↦
        let w = at_most-listed sets (λ x. OnSide net side a x ⊎ (x ≡ m)) (sets_on net side a) side_distinct (λ x. (⊎_elim (λ i. i) (λ e. rw e t), inl)) in
        ((λ e. w.0 (omega (arith, sets_length net o side a h, orderly_at_most net o side a h))), (λ e. rw t))
    | inr f ↦
        let w = at_most-listed sets (λ x. OnSide net side a x ⊎ (x ≡ m)) (m ∷ sets_on net side a) (distinct_more m (sets_on net side a) f side_distinct) (λ x. (⊎_elim (λ i. listed-later x m (sets_on net side a) i) (λ e. rw e (listed-first m (sets_on net side a))), head_or_later x m (sets_on net side a))) in (
          (λ e. let d = eqb-false (get_or (lengths_of net side) a 0) sets (not-true _ (rw f at e)) in w.0 (omega (arith, sets_length net o side a h, orderly_at_most net o side a h, d))),
          (λ e. rw (f, ne_eqb (get_or (lengths_of net side) a 0) sets (λ q. let n = w.1 e in omega (arith, sets_length net o side a h)))),
        )
  ]

pub put-told : (net : Net) (side : Side) (a m : ℕ) → Told refused (put_refusals net side a m) (accepted (indicator (not (listed m (sets_on net side a))))) (put_says net side a m)
unfolding put_says side_says
put-told net side a m =
    let there = listed m (sets_on net side a) in
    let value = accepted (indicator (not there)) in
    orderly_link refused value _ _ net
    (λ o. whole_link refused value no_activity _ _ (ltb a activities) _ (λ e h. let l = ltb-true a activities e in omega arith) (ltb-false a activities)
    (λ l. whole_link refused value misplaced_set _ _ (not (misplaced (empty_at net side) a m)) _
    (λ e w. false-not-true (not-true _ e) ((misplaced_exactly net side a m).1 w)) (λ e. (misplaced_exactly net side a m).0 (not-false _ e))
    (λ p. whole_link refused value full_side _ [] (there || not (eqb (get_or (lengths_of net side) a 0) sets)) _
    (λ e w. w ((room_exactly net o side a (ltb-true a activities l) m).0 e)) (λ e w. false-not-true e ((room_exactly net o side a (ltb-true a activities l) m).1 w))
    (λ e. told_end refused value))))

pub put-listed : (net : Net) (side : Side) (a m : ℕ) → AsListed refused (put_refusals net side a m) (put_says net side a m)
put-listed net side a m = chain_listed (put_refusals net side a m) refl (indicator (not (listed m (sets_on net side a)))) (put-told net side a m)

-- what put says of a set that isn't empty

pub data PutCase (net : Net) (side : Side) (a m : ℕ) : Type 0 where
  said_misplaced : put_says net side a m ≡ refused misplaced_set 0 → a ≡ empty_at net side → PutCase net side a m
  said_full : put_says net side a m ≡ refused full_side 0 → (a ≡ empty_at net side → ⊥) → Exceeds net side a m → PutCase net side a m
  said_put : (put_says net side a m).ok ≡ true → (a ≡ empty_at net side → ⊥) → (Exceeds net side a m → ⊥) → PutCase net side a m

pub put_case : (net : Net) (side : Side) (a m : ℕ) → orderly net ≡ true → a < activities → 0 < m → PutCase net side a m
unfolding put_says side_says
put_case net side a m o h k = go (misplaced (empty_at net side) a m) refl (listed m (sets_on net side a) || not (eqb (get_or (lengths_of net side) a 0) sets)) refl
  where
    there : misplaced (empty_at net side) a m ≡ true → a ≡ empty_at net side
    there p = ⊎_elim (λ v. absurd (omega (arith, v.0))) (λ v. v.1) ((misplaced_exactly net side a m).0 p)

    elsewhere : misplaced (empty_at net side) a m ≡ false → a ≡ empty_at net side → ⊥
    elsewhere p e = false-not-true p ((misplaced_exactly net side a m).1 (inr ((λ z. omega arith), e)))

    go : (p : Bool) → misplaced (empty_at net side) a m ≡ p → (t : Bool) → listed m (sets_on net side a) || not (eqb (get_or (lengths_of net side) a 0) sets) ≡ t → PutCase net side a m
    go true p t q = said_misplaced (rw (o, lt-ltb a activities h, p)) (there p)
    go false p true q = said_put (rw (o, lt-ltb a activities h, p, q)) (elsewhere p) (λ f. f ((room_exactly net o side a h m).0 q))
    go false p false q = said_full (rw (o, lt-ltb a activities h, p, q)) (elsewhere p) (λ f. false-not-true q ((room_exactly net o side a h m).1 f))

-- ---- containment

contained-told : (net other : Net) (p q : Bool) (value : Says) → orderly net ≡ p → orderly other ≡ q → Told refused (contained_refusals net other) value (cond p (cond q value (refused disorderly 2)) (refused disorderly 1))
contained-told net other true true value e f =
    passed (λ n p. ⊎_elim (λ h. neither h.1.others h.1.inside h.1.bad) (λ h. h))
  where
    neither : (i : ℕ) → i < 2 → (Orderly (of_two net other i) → ⊥) → ⊥
    neither zero l b = b (orderly_facts net e)
    neither (suc i) l b = b (orderly_facts other f)
contained-told net other true false value e f =
    stopped 2 2 (inl (refl, record { others = 1; inside = omega arith; at_place = refl; bad = orderly_some other f; none_before = λ i l b. before i l b }))
  where
    before : (i : ℕ) → i < 1 → (Orderly (of_two net other i) → ⊥) → ⊥
    before zero l b = b (orderly_facts net e)
    before (suc i) l b = omega arith
contained-told net other false q value e f =
    stopped 2 1 (inl (refl, record { others = 0; inside = omega arith; at_place = refl; bad = orderly_some net e; none_before = λ i l b. omega arith }))

pub contained-listed : (net other : Net) → AsListed refused (contained_refusals net other) (contained_says net other)
unfolding contained_says
contained-listed net other = elim (true_or_false (contained net other)) [
  | inl t ↦ rw t (chain_listed (contained_refusals net other) refl 1 (contained-told net other (orderly net) (orderly other) (accepted 1) refl refl))
  | inr f ↦ rw f (chain_listed (contained_refusals net other) refl 0 (contained-told net other (orderly net) (orderly other) (accepted 0) refl refl))
]
