-- `first_wrongly_empty` meets its contract. The loop's invariant: at each position passed the sets are empty and filled as they
-- have to be. Assumes nothing.
use Rattle.std.proofs.Common.{sym, ⊎_elim}
use borrow.Author.Tests.{not-true, not-false}
use Rattle.sequences.proofs.LearnLaws.{agreeing_start, agreeing_inside, agreeing_end, input_wrong, output_wrong, agreeing_next}
use Rattle.sequences.proofs.NumberLaws.{numbered_first, numbered, numbered_next, range_left}
use Rattle.sequences.proofs.learning.first_wrongly_empty.Goals as goal
use Rattle.sequences.proofs.learning.first_wrongly_empty.Goals.{then-binding-is_first-via-then-binding-is_first, then-binding-is_first-via-else-binding-is_first+then-binding-is_last}

pub loop-position-init : goal.loop-position-init
loop-position-init c = ((tt, tt), tt, numbered_first _ _ _ (cc) (agreeing_start _ _ (cc)))

pub returns-then-binding-is_first : goal.returns-then-binding-is_first
returns-then-binding-is_first c =
    let n = c.loop-position.invariant.2 in
    let s = c.in-Some.ensures.steps in
    let p = numbered _ _ _ n _ s.0.0 in
    sym (elim c.then-binding-is_first.branch [
      | then-binding-is_first-via-then-binding-is_first w ↦ input_wrong _ _ _ n.holds _ _ s.1 _ p (not-true _ w.if-binding-is_first.true)
      | then-binding-is_first-via-else-binding-is_first+then-binding-is_last w ↦ output_wrong _ _ _ n.holds _ _ s.1 _ p _ c.requires.count (not-true _ w.if-binding-is_last.true)
    ])

pub loop-position-preserved : goal.loop-position-preserved
loop-position-preserved c =
    let n = c.loop-position.invariant.2 in
    let s = c.in-Some.ensures.steps in (
      (tt, tt),
      tt,
      numbered_next _ _ _ n _ s.0.0 _ _ s.0.1 (agreeing_inside _ _ _ n.holds _ _ s.1)
          (agreeing_next _ _ _ n.holds _ _ s.1 _ (numbered _ _ _ n _ s.0.0) _ c.requires.count (not-false _ c.if-binding-is_first.false) (not-false _ c.if-binding-is_last.false)),
    )

pub returns : goal.returns
returns c =
    let n = c.loop-position.invariant.2 in
    sym (⊎_elim (λ w. absurd (range_left _ _ _ n c.requires.within_limits.few w.1.0)) (λ w. agreeing_end _ _ _ n.holds w.1.0) c.in-None.ensures.steps)
