-- The statements of specs/Statements.antt, each from the laws of its definition. Assumes nothing.
use Prim.Native.Nat.{ℕ, ◌*◌}
use native.Mathlib.Omega.{arith}
use borrow.Author.Tests.{ne_eqb}
use mathlib.Core.Path.{◌≡◌, refl, sym, ap, ◌∙◌}
use mathlib.Core.Bool.{Bool, true, false, not, cond}
use mathlib.Core.Logic.{◌↔◌, ⊎_elim}
use Rattle.obligations.specs.Tests.{indicator}
use Rattle.obligations.proofs.BoolLaws.{true_or_false, false-not-true}
use Rattle.net.specs.Refusals.{Says, accepted, refused, name_unanswered}
use Rattle.net.specs.Sentences.{order_of, NoneHolds}
use Rattle.net.specs.Lists.{listed}
use Rattle.net.specs.Sides.{sets_on, counts_on}
use Rattle.net.specs.Orderly.{Orderly, ends_ok, orderly}
use Rattle.net.specs.Fresh.{fresh_net, fresh_refusals, fresh_says, fresh_gives}
use Rattle.net.specs.Put.{put_refusals, put_says, put_gives}
use Rattle.net.specs.Contained.{Contained, contained, contained_says}
use Rattle.net.specs.Statements.{PapersOrder, OrderlyTestRight, AlikeEqual, ContainedTestRight, FreshSaid, FreshHolds, FreshRefused, Put, PutSaid, PutHolds, PutRefusedSame, ContainedSaid, ContainedPassesOver, FreshListed, PutListed, ContainedListed}
use Rattle.net.specs.declared.Net.{Net}
use Rattle.net.specs.declared.sides.Side.{Side}
use Rattle.net.proofs.SentenceLaws.{Told, told-accepted, told-value}
use Rattle.net.proofs.PlaceLaws.{count_absent}
use Rattle.net.proofs.OrderlyLaws.{orderly_facts, facts_orderly}
use Rattle.net.proofs.SameLaws.{alike_same}
use Rattle.net.proofs.FreshLaws.{fresh_start, fresh-end, fresh_on_side, fresh_unused, fresh_orderly}
use Rattle.net.proofs.PutLaws.{put_refused, put_accepted, put_start, put_end, put_orderly, put_on_side, put_size, put_count}
use Rattle.net.proofs.UncountedLaws.{passes_over, first-uncounted, second-uncounted}
use Rattle.net.proofs.ContainedLaws.{contained_facts, facts_contained}
use Rattle.net.proofs.RefusalLaws.{fresh-told, fresh-listed, put-told, put-listed, contained-listed}

-- the place of a number in the order, but for 19
order_of_lem : (n : ℕ) → (n ≡ name_unanswered → ⊥) → order_of n ≡ 2 * n
order_of_lem n d = rw (ne_eqb n name_unanswered d)

pub papers_order : PapersOrder
papers_order = record {
  by_number = λ m n dm dn. ((λ l. omega (arith, l, order_of_lem m dm, order_of_lem n dn)), (λ l. omega (arith, l, order_of_lem m dm, order_of_lem n dn)));
  after_six = omega arith;
  before_seven = omega arith;
}

pub orderly_test_right : OrderlyTestRight
orderly_test_right net = (orderly_facts net, facts_orderly net)

pub alike_equal : AlikeEqual
alike_equal net other o q = alike_same net other (facts_orderly net o) (facts_orderly other q)

pub contained_test_right : ContainedTestRight
contained_test_right net other = (contained_facts net other, facts_contained net other)

-- ---- fresh

pub fresh_said : FreshSaid
fresh_said start end = told-accepted (fresh_refusals start end) 0 (fresh-told start end)

-- the net that fresh returns where it accepts
pub fresh_made : (start end : ℕ) → fresh_says start end ≡ accepted 0 → (ends_ok start end ≡ true) × (fresh_gives start end ≡ fresh_net start end)
unfolding fresh_says fresh_gives
fresh_made start end e =
    let h = ⊎_elim (λ o. o) (λ o. absurd (false-not-true refl (ap (λ (s : Says). s.ok) (rw o at e)))) (true_or_false (ends_ok start end)) in
    (h, rw h)

pub fresh_holds : FreshHolds
fresh_holds start end e =
    let h = fresh_made start end e in
    rw h.1 (record {
      start_is = fresh_start start end;
      end_is = fresh-end start end;
      is_orderly = orderly_facts _ (fresh_orderly start end h.0);
      two_empty = fresh_on_side start end h.0;
      never_used = fresh_unused start end h.0;
    })

pub fresh-refused : FreshRefused
unfolding fresh_says fresh_gives
fresh-refused start end n p e = ⊎_elim (λ o. absurd (false-not-true refl (sym (ap (λ (s : Says). s.ok) (rw o at e))))) (λ o. rw o) (true_or_false (ends_ok start end))

-- ---- put

pub put_said : PutSaid
put_said net side a m = go (listed m (sets_on net side a)) (put-told net side a m)
  where
    go : (there : Bool) → Told refused (put_refusals net side a m) (accepted (indicator (not there))) (put_says net side a m)
        → ((put_says net side a m ≡ accepted 1) ↔ (NoneHolds (put_refusals net side a m) × (there ≡ true → ⊥)))
        × ((put_says net side a m ≡ accepted 0) ↔ (NoneHolds (put_refusals net side a m) × (there ≡ true)))
    go true t = (
      ((λ e. absurd (omega (arith, ((told-value (put_refusals net side a m) 0 1 t).0 e).1))), (λ h. absurd (h.1 refl))),
      ((λ e. ((told-accepted (put_refusals net side a m) 0 t).0 e, refl)), (λ h. (told-accepted (put_refusals net side a m) 0 t).1 h.0)),
    )
    go false t = (
      ((λ e. ((told-accepted (put_refusals net side a m) 1 t).0 e, false-not-true refl)), (λ h. (told-accepted (put_refusals net side a m) 1 t).1 h.0)),
      ((λ e. absurd (omega (arith, ((told-value (put_refusals net side a m) 1 0 t).0 e).1))), (λ h. absurd (false-not-true refl h.1))),
    )

put-with : (net : Net) (side : Side) (a m new : ℕ) → put_says net side a m ≡ accepted new → Put net side a m new (put_gives net side a m)
put-with net side a m new e =
    let ok = ap (λ (s : Says). s.ok) e in
    record {
      same_start = put_start net side a m;
      same_end = put_end net side a m;
      is_orderly = orderly_facts _ (put_orderly net side a m (put_accepted net side a m ok).0);
      on_sides = put_on_side net side a m ok;
      grown_by = rw (← ap (λ (s : Says). s.value) e) (put_size net side a m ok);
      same_counts = put_count net side a m (put_accepted net side a m ok).0;
      new_uncounted = λ n. put_count net side a m (put_accepted net side a m ok).0 side a m ∙ count_absent m (sets_on net side a) (counts_on net side a) (⊎_elim (λ t. absurd (n t)) (λ f. f) (true_or_false (listed m (sets_on net side a))));
    }

pub put_holds : PutHolds
put_holds net side a m = (put-with net side a m 1, put-with net side a m 0)

pub put-refused-same : PutRefusedSame
put-refused-same net side a m n p e = put_refused net side a m (ap (λ (s : Says). s.ok) e)

-- ---- containment

-- what containment says, from its three tests
module _ (net other : Net) where
  contained_tests : (p q r : Bool) → orderly net ≡ p → orderly other ≡ q → contained net other ≡ r
      → ((contained_says net other ≡ accepted 1) → (p ≡ true) × (q ≡ true) × (r ≡ true)) × ((contained_says net other ≡ accepted 0) → (p ≡ true) × (q ≡ true) × (r ≡ false))
  unfolding contained_says
  contained_tests true true true e f g = ((λ h. (refl, refl, refl)), (λ h. absurd (one_not_none (sym (ap (λ (s : Says). s.value) (rw (e, f, g) at h))))))
    where
      one_not_none : ◌≡◌ {A = ℕ} 0 1 → ⊥
      one_not_none z = omega arith
  contained_tests true true false e f g = ((λ h. absurd (one_not_none (ap (λ (s : Says). s.value) (rw (e, f, g) at h)))), (λ h. (refl, refl, refl)))
    where
      one_not_none : ◌≡◌ {A = ℕ} 0 1 → ⊥
      one_not_none z = omega arith
  contained_tests true false r e f g = ((λ h. absurd (stops h)), (λ h. absurd (stops h)))
    where
      stops : {v : ℕ} → contained_says net other ≡ accepted v → ⊥
      stops h = false-not-true refl (ap (λ (s : Says). s.ok) (rw (e, f) at h))
  contained_tests false q r e f g = ((λ h. absurd (stops h)), (λ h. absurd (stops h)))
    where
      stops : {v : ℕ} → contained_says net other ≡ accepted v → ⊥
      stops h = false-not-true refl (ap (λ (s : Says). s.ok) (rw e at h))

  says_contained : (r : Bool) → Orderly net → Orderly other → contained net other ≡ r → contained_says net other ≡ cond r (accepted 1) (accepted 0)
  unfolding contained_says
  says_contained r o q e = rw (facts_orderly net o, facts_orderly other q, e)

pub contained_said : ContainedSaid
contained_said net other =
    let t = contained_tests net other (orderly net) (orderly other) (contained net other) refl refl refl in (
      (
        (λ e. let h = t.0 e in (orderly_facts net h.0, orderly_facts other h.1, contained_facts net other h.2)),
        (λ h. says_contained net other true h.0 h.1 (facts_contained net other h.2)),
      ),
      (
        (λ e. let h = t.1 e in (orderly_facts net h.0, orderly_facts other h.1, (λ c. false-not-true h.2 (facts_contained net other c)))),
        (λ h. says_contained net other false h.0 h.1 (not_contained h.2)),
      ),
    )
  where
    not_contained : (Contained net other → ⊥) → contained net other ≡ false
    not_contained n = ⊎_elim (λ t. absurd (n (contained_facts net other t))) (λ f. f) (true_or_false (contained net other))

pub contained-passes_over : ContainedPassesOver
contained-passes_over net net' other other' o o' q q' e f =
    passes_over (λ n. contained_says n other) (first-uncounted other) net net' o o' e ∙ passes_over (contained_says net') (second-uncounted net') other other' q q' f

-- ---- the refusals

pub fresh-as_listed : FreshListed
fresh-as_listed = fresh-listed

pub put-as_listed : PutListed
put-as_listed = put-listed

pub contained-as_listed : ContainedListed
contained-as_listed = contained-listed
