-- The order of learning is immaterial. Every call of a list is accepted exactly if each sequence could be learned alone and all together
-- fit and can be counted: call by call, what is behind the first is asked of the net that has gained the first. If each sequence
-- occurs as often in another list, each of that list's occurs in the first and so could be learned alone, and all of them together
-- have the same uses, so that they fit and can be counted, and the grown net is the same. Assumes nothing.
use Prim.Native.Nat.{ℕ, ◌<◌}
use native.Mathlib.Omega.{arith}
use mathlib.Core.Path.{◌≡◌, refl, sym, subst, ◌∙◌}
use mathlib.Core.List.{List, [], ◌∷◌, map, Memᴰ}
use mathlib.Core.List.Memᴰ
use mathlib.Core.Logic.{◌⊎◌, inl, inr, ⊎_elim}
use Rattle.net.specs.Refusals.{accepted}
use Rattle.net.specs.Sides.{SameButCounts}
use Rattle.net.specs.Orderly.{Orderly}
use Rattle.net.specs.Contained.{Contained}
use Rattle.net.specs.declared.Net.{Net}
use Rattle.net.proofs.OrderlyLaws.{facts_orderly}
use Rattle.net.proofs.WithinLaws.{contained-same}
use Rattle.sequences.specs.Gain.{Gains, Fits, Countable}
use Rattle.sequences.specs.Statements.{Learnable, SameUses}
use Rattle.sequences.proofs.JoinLaws.{NoMore, fits_within, countable_within, fits_nothing, countable_nothing, fits_after, fits_both, countable_after, countable_both, gains_nothing, gains_both, formed_as, gained_among, gains_same}
use Rattle.netfile.specs.Statements.{SameText}
use Rattle.netfile.proofs.Theorems.{write-passes_over}
use Rattle.promises.specs.Calls.{Call, sequence_of, learned_words, together, says, gives, grown, answers}
use Rattle.promises.specs.Order.{AllAccepted, times, AsOften, positions_of, LearnableTogether, SameGrown, OrderImmaterial, SameSequences, OnlyCountsDiffer}
use Rattle.promises.proofs.CallLaws.{bindings-learned, call_learnable, call_gains}
use Rattle.promises.proofs.GrownLaws.{no_more}
use Rattle.promises.proofs.TimesLaws.{occurs, taken_out, none_occurs, nothing_occurs, same_uses, sets_among}

-- ---- one call of several

-- it uses no set more often than all of them
no_more_alone : (call : Call) (calls : List Call) → Memᴰ call calls → NoMore (sequence_of call) (positions_of calls)
no_more_alone call calls i = no_more (sequence_of call) (map sequence_of calls) (Memᴰ.map sequence_of i)

-- and if all of them fit and can be counted together, the net could learn it if one with the same start and end could
learnable_by : (net next : Net) (call : Call) (calls : List Call) → net.start ≡ next.start → net.end ≡ next.end → Orderly next → Fits next (positions_of calls) → Countable next (positions_of calls)
    → Memᴰ call calls → Learnable net (learned_words call) → Learnable next (learned_words call)
learnable_by net next call calls es ee o f c i l =
    let s = sequence_of call in
    let u = no_more_alone call calls i in
    record {
      net_orderly = o;
      count = l.count;
      whole = l.whole;
      few = l.few;
      well_formed = formed_as net.start net.end next.start next.end es ee l.well_formed;
      fitting = subst (Fits next) (sym (bindings-learned call)) (fits_within s (positions_of calls) u next f);
      counting = subst (Countable next) (sym (bindings-learned call)) (countable_within s (positions_of calls) u next c);
    }

-- ---- a list of calls

-- the first call of a list is accepted, and so are the others, given the net that it returns
first_accepted : (net : Net) (call : Call) (calls : List Call) → AllAccepted net (call ∷ calls) → (new : ℕ) × (says net call ≡ accepted new)
unfolding answers
first_accepted net call calls h = h (says net call) (Memᴰ.head refl)

others_accepted : (net : Net) (call : Call) (calls : List Call) → AllAccepted net (call ∷ calls) → AllAccepted (gives net call) calls
unfolding answers
others_accepted net call calls h said i = h said (Memᴰ.tail i)

both_accepted : (net : Net) (call : Call) (calls : List Call) → (new : ℕ) × (says net call ≡ accepted new) → AllAccepted (gives net call) calls → AllAccepted net (call ∷ calls)
unfolding answers
both_accepted net call calls w h said i = ⊎_elim (λ e. (w.0, e ∙ w.1)) (h said) (Memᴰ.cases_cons i)

pub accepted_learnable : (net : Net) (calls : List Call) → Orderly net → AllAccepted net calls → LearnableTogether net calls
unfolding together
accepted_learnable net [] o h = record { each_alone = λ c i. absurd (Memᴰ.not-nil i); fitting = fits_nothing net o; counting = countable_nothing net }
accepted_learnable net (call ∷ calls) o h =
    let w = first_accepted net call calls h in
    let next = gives net call in
    let g = call_gains net call w.0 w.1 in
    let l = (call_learnable net call).0 w in
    let rest = accepted_learnable next calls g.is_orderly (others_accepted net call calls h) in
    let f = fits_both net next (sequence_of call) (positions_of calls) g.on_sides rest.fitting in
    let c = countable_both net next (sequence_of call) (positions_of calls) g (subst (Countable net) (bindings-learned call) l.counting) rest.counting in
    record {
      each_alone = λ d i.
          ⊎_elim (λ e. subst (λ (k : Call). Learnable net (learned_words k)) (sym e) l)
          (λ j. learnable_by next net d (call ∷ calls) g.same_start g.same_end o f c i (rest.each_alone d j))
          (Memᴰ.cases_cons i);
      fitting = f;
      counting = c;
    }

pub learnable_accepted : (net : Net) (calls : List Call) → LearnableTogether net calls → AllAccepted net calls
unfolding answers together
learnable_accepted net [] l = λ said i. absurd (Memᴰ.not-nil i)
learnable_accepted net (call ∷ calls) l =
    let w = (call_learnable net call).1 (l.each_alone call (Memᴰ.head refl)) in
    let next = gives net call in
    let g = call_gains net call w.0 w.1 in
    let f = fits_after net next (sequence_of call) (positions_of calls) g.on_sides l.fitting in
    let c = countable_after net next (sequence_of call) (positions_of calls) g l.counting in
    both_accepted net call calls w
    (learnable_accepted next calls
    (record {
      each_alone = λ d i. learnable_by net next d calls (sym g.same_start) (sym g.same_end) g.is_orderly f c i (l.each_alone d (Memᴰ.tail i));
      fitting = f;
      counting = c;
    }))

pub gained_together : (net : Net) (calls : List Call) → Orderly net → AllAccepted net calls → Gains net (positions_of calls) (grown net calls)
unfolding together grown
gained_together net [] o h = gains_nothing net o
gained_together net (call ∷ calls) o h =
    let w = first_accepted net call calls h in
    let g = call_gains net call w.0 w.1 in
    gains_both net (gives net call) (sequence_of call) (positions_of calls) g (grown (gives net call) calls) (gained_together (gives net call) calls g.is_orderly (others_accepted net call calls h))

-- a list without a call, or a net that is orderly, as any net is on which a call is accepted
none_or_orderly : (net : Net) (calls : List Call) → AllAccepted net calls → (calls ≡ []) ⊎ Orderly net
none_or_orderly net [] h = inl refl
none_or_orderly net (call ∷ calls) h = inr ((call_learnable net call).0 (first_accepted net call calls h)).net_orderly

-- where each sequence of another list occurs in one without a call, that one has none either
none_either : (calls calls' : List Call) → ((ws : List ℕ) → 0 < times ws calls' → 0 < times ws calls) → calls ≡ [] → calls ≡ calls'
none_either calls calls' h e = e ∙ sym (none_occurs calls' (λ ws k. nothing_occurs ws (subst (λ (cs : List Call). 0 < times ws cs) e (h ws k))))

-- ---- two lists in which each sequence occurs as often

module _ (net : Net) (calls calls' : List Call) (o : Orderly net) (h : AllAccepted net calls) (e : AsOften calls calls') where
  uses_same : SameUses (positions_of calls) (positions_of calls')
  uses_same = same_uses calls calls' e

  others_no_more : NoMore (positions_of calls') (positions_of calls)
  others_no_more t a m = omega (arith, uses_same t a m)

  learnable_too : LearnableTogether net calls'
  learnable_too =
      let l = accepted_learnable net calls o h in
      record {
        each_alone = λ d i.
            let w = taken_out (learned_words d) calls (omega (arith, occurs d calls' i, e (learned_words d))) in
            subst (Learnable net) w.words_are (l.each_alone w.call w.among);
        fitting = fits_within (positions_of calls') (positions_of calls) others_no_more net l.fitting;
        counting = countable_within (positions_of calls') (positions_of calls) others_no_more net l.counting;
      }

  orderly_grown : SameGrown net calls calls'
  orderly_grown =
      let k = learnable_accepted net calls' learnable_too in
      let n =
      gains_same net (positions_of calls) (positions_of calls') (grown net calls) (grown net calls') uses_same (gained_together net calls o h) (gained_together net calls' o k) in
      record {
        accepted_too = k;
        same_net = n;
        same_text = subst (SameText (grown net calls)) n (λ buf. (refl, refl));
      }

pub same_grown : OrderImmaterial
same_grown net calls calls' h e =
    ⊎_elim (λ n. subst (SameGrown net calls) (none_either calls calls' (λ ws k. omega (arith, e ws)) n) (record { accepted_too = h; same_net = refl; same_text = λ buf. (refl, refl) }))
    (λ o. orderly_grown net calls calls' o h e)
    (none_or_orderly net calls h)

-- ---- two lists in which the same sequences occur

-- where each sequence of one list occurs in the other, the net grown by the one is contained in the other's
gained-contained : (net after after' : Net) (calls calls' : List Call) → Gains net (positions_of calls) after → Gains net (positions_of calls') after'
    → ((ws : List ℕ) → 0 < times ws calls → 0 < times ws calls') → Contained after after'
gained-contained net after after' calls calls' g k f = record {
  same_start = g.same_start ∙ sym k.same_start;
  same_end = g.same_end ∙ sym k.same_end;
  among = λ t a m h. gained_among net after after' (positions_of calls) (positions_of calls') g k (sets_among calls calls' f) t a m;
}

orderly_but_counts : (net : Net) (calls calls' : List Call) → Orderly net → AllAccepted net calls → AllAccepted net calls' → SameSequences calls calls'
    → SameButCounts (grown net calls) (grown net calls') × SameText (grown net calls) (grown net calls')
orderly_but_counts net calls calls' o h k e =
    let g = gained_together net calls o h in
    let g' = gained_together net calls' o k in
    let c =
    contained-same (grown net calls) (grown net calls') (facts_orderly _ g.is_orderly) (facts_orderly _ g'.is_orderly)
    (gained-contained net _ _ calls calls' g g' (λ ws. (e ws).0))
    (gained-contained net _ _ calls' calls g' g (λ ws. (e ws).1)) in
    (c, write-passes_over (grown net calls) (grown net calls') g.is_orderly g'.is_orderly c)

pub differ_in_counts : OnlyCountsDiffer
differ_in_counts net calls calls' h k e =
    ⊎_elim
    (λ n. subst (λ (cs : List Call). SameButCounts (grown net calls) (grown net cs) × SameText (grown net calls) (grown net cs)) (none_either calls calls' (λ ws. (e ws).1) n) (refl, (λ buf. (refl, refl))))
    (λ o. orderly_but_counts net calls calls' o h k e)
    (none_or_orderly net calls h)
