-- The promise of specs/Promise.antt: the answers are those of each call's sentences, and the rest is read off the net that has grown
-- from the fresh one. Assumes nothing.
use Prim.Native.Nat.{ℕ}
use native.Mathlib.Omega.{arith}
use mathlib.Core.Path.{◌≡◌, sym, ap, ◌∙◌}
use mathlib.Core.Bool.{true}
use mathlib.Core.List.{List, [], ◌∷◌, Memᴰ}
use mathlib.Core.Logic.{◌↔◌, ◌⊎◌, inl, inr}
use Rattle.obligations.specs.declared.sequence.Binding.{Binding}
use Rattle.net.specs.Refusals.{Says, accepted}
use Rattle.net.specs.Sentences.{NoneHolds, IsGiven}
use Rattle.net.specs.Orderly.{ends_ok}
use Rattle.net.specs.Fresh.{fresh_net, fresh_gives}
use Rattle.net.specs.Contained.{contained_says}
use Rattle.net.specs.Valid.{Valid}
use Rattle.net.specs.declared.Net.{Net}
use Rattle.net.proofs.OrderlyLaws.{orderly_facts}
use Rattle.net.proofs.FreshLaws.{fresh_orderly, fresh_unused, fresh_sum}
use Rattle.net.proofs.SentenceLaws.{accepted-not-refused}
use Rattle.net.proofs.Theorems.{fresh_made, contained_said}
use Rattle.walks.specs.Check.{check_says}
use Rattle.walks.proofs.CheckLaws.{said_passes}
use Rattle.walks.proofs.Theorems.{passes-says}
use Rattle.sequences.specs.Learn.{new_sets}
use Rattle.promises.specs.Calls.{Call, sequence_of, refusals, says, gives, grown, answers}
use Rattle.promises.specs.Promise.{Called, Runs, none_left, accepts, refuses, Promise, Promised}
use Rattle.promises.specs.Order.{AcceptedExactly, GainsTogether, OrderImmaterial, FreshOrderImmaterial, OnlyCountsDiffer}
use Rattle.promises.proofs.CallLaws.{call_listed, call_accepted, call_gains, call_grows, call_stays}
use Rattle.promises.proofs.GrownLaws.{learned, learned-nothing, learned_more, learned_same, Grown, grown_list, learned-masks, grown-valid}
use Rattle.promises.proofs.PassLaws.{grown_net_passes}
use Rattle.promises.proofs.WithinLaws.{valid-grows, all_valid_contained}
use Rattle.promises.proofs.OrderLaws.{accepted_learnable, learnable_accepted, gained_together, same_grown, differ_in_counts}
use Rattle.promises.proofs.ReplayLaws.{found_not_none, none_exactly}

-- ---- one call

pub called : (net : Net) (call : Call) → Called net call
called net call = record {
  as_listed = call_listed net call;
  accepted_exactly = λ new. (
    (λ e. (not_refused new e, call_grows net call new e)),
    (λ w. let e = (call_accepted net call).1 w.0 in e ∙ ap accepted (omega (arith, call_grows net call (new_sets net (sequence_of call)) e, w.1))),
  );
  gains = λ none. call_gains net call (new_sets net (sequence_of call)) ((call_accepted net call).1 none);
  stays = λ n p l. call_stays net call n p (((call_listed net call).refused_exactly n p).1 l);
}
  where
    not_refused : (new : ℕ) → says net call ≡ accepted new → NoneHolds (refusals net call)
    not_refused new e = (call_listed net call).not_refused_exactly.0 (λ n p f. accepted-not-refused new n p (sym e ∙ f))

-- ---- a list of calls

-- one call, and the run of the others
runs_more : (net : Net) (call : Call) (calls : List Call) → ((next : Net) → Runs next calls (answers next calls) (learned next calls) (grown next calls))
    → NoneHolds (refusals net call) ⊎ ((n p : ℕ) × IsGiven (refusals net call) n p)
    → Runs net (call ∷ calls) (answers net (call ∷ calls)) (learned net (call ∷ calls)) (grown net (call ∷ calls))
unfolding answers grown
runs_more net call calls rest (inl none) =
    let new = new_sets net (sequence_of call) in
    let e = (call_accepted net call).1 none in
    rw (e, learned_more net call calls new e) (accepts none ((called net call).gains none) (call_grows net call new e) (rest (gives net call)))
runs_more net call calls rest (inr (n, p, l)) =
    let e = ((call_listed net call).refused_exactly n p).1 l in
    rw (e, learned_same net call calls n p e, (called net call).stays n p l) (refuses l (rest net))

runs_list : (net : Net) (calls : List Call) → Runs net calls (answers net calls) (learned net calls) (grown net calls)
unfolding answers grown
runs_list net [] = rw (learned-nothing net) none_left
runs_list net (call ∷ calls) = runs_more net call calls (λ next. runs_list next calls) (call_listed net call).given_or_none

module _ (start end : ℕ) (h : ends_ok start end ≡ true) (calls : List Call) where
  abbrev first : Net
  first = fresh_net start end

  grew : Grown first (grown first calls) (learned first calls)
  grew = grown_list first calls (orderly_facts first (fresh_orderly start end h))

  contained_valid : (other : Net) (n : ℕ) → check_says other ≡ accepted n → other.start ≡ first.start → other.end ≡ first.end
      → (contained_says (grown first calls) other ≡ accepted 1) ↔ ((s : List Binding) → Memᴰ s (learned first calls) → Valid other s)
  contained_valid other n p es ee =
      let net = grown first calls in
      let ss = learned first calls in
      let o = (said_passes other (ap (λ (s : Says). s.ok) p)).is_orderly in
      let c = (contained_said net other).0 in (
        (λ e s m. valid-grows net other s (c.0 e).2 (grown-valid first net ss grew s m)),
        (λ v. c.1 (grew.gains.is_orderly, o, all_valid_contained start end h net ss grew other o es ee v)),
      )

  promise : Promise first calls
  promise =
      let net = grown first calls in
      let ss = learned first calls in
      record {
        learned = ss;
        runs = runs_list first calls;
        each_call = λ before after call e. called (grown first before) call;
        grown_passes = λ w s m. let p = grown_net_passes start end h net ss grew (learned-masks first calls w) s m in (p, passes-says net p);
        contained_exactly = contained_valid;
        found_never_none = λ other e. found_not_none net other grew.gains.is_orderly ((contained_said net other).0.0 e).2;
        none_exactly = none_exactly;
        counted = λ side a m. omega (arith, grew.gains.counted side a m, fresh_unused start end h side a m);
        counts_add_up = λ side a. omega (arith, grew.adds_up side a, fresh_sum start end h side a);
      }

pub promised : Promised
promised start end e calls = let f = fresh_made start end e in rw f.1 (promise start end f.0 calls)

-- ---- the order

pub accepted_exactly : AcceptedExactly
accepted_exactly net calls o = (accepted_learnable net calls o, learnable_accepted net calls)

pub gains_together : GainsTogether
gains_together = gained_together

pub order_immaterial : OrderImmaterial
order_immaterial = same_grown

pub fresh_order_immaterial : FreshOrderImmaterial
fresh_order_immaterial start end calls calls' h k e = (order_immaterial (fresh_gives start end) calls calls' h e).same_net

pub only_counts_differ : OnlyCountsDiffer
only_counts_differ = differ_in_counts
