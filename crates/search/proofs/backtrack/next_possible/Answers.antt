-- `next_possible` meets its contract: `position` finds the first set that is among those because of which the activity is due, and
-- those that are so are the possible ones. Assumes nothing.
use Rattle.std.proofs.Common.{ℕ, suc, ◌+◌, ◌≡◌, Bool, true, false, not, cond, List, [], ◌∷◌, get_or, refl, sym, ap₂, ◌∙◌, rules, arith}
use Rattle.std.specs.List.{position_or_len}
use Rattle.std.proofs.lemmas.Iterator.{YieldsList-from_slice, IsFirst-from_position, index_from_first}
use Rattle.obligations.specs.Sets.{subset}
use Rattle.obligations.specs.State.{possible}
use Rattle.obligations.proofs.CountLaws.{subset_possible}
use Rattle.search.proofs.backtrack.next_possible.Goals as goal

module _ (p : ℕ → Bool) where
  none : position_or_len p [] ≡ 0
  none = refl

  here : (x : ℕ) (xs : List ℕ) → p x ≡ true → position_or_len p (x ∷ xs) ≡ 0
  here x xs e = rw e

  behind : (x : ℕ) (xs : List ℕ) → p x ≡ false → position_or_len p (x ∷ xs) ≡ position_or_len p xs + 1
  behind x xs e = rw e (omega arith)

same_position : (p q : ℕ → Bool) (xs : List ℕ) → ((i : ℕ) → p (get_or xs i 0) ≡ q (get_or xs i 0)) → position_or_len p xs ≡ position_or_len q xs
same_position p q [] e = refl
same_position p q (x ∷ xs) e = ap₂ (λ (b : Bool) (n : ℕ). cond (not b) (1 + n) 0) (e 0) (same_position p q xs (λ i. e (suc i)))

pub returns : goal.returns
returns c =
    let a = c.args in
    let s = c.causes-causes.result in
    let among = λ (x : ℕ). subset x s in
    let found = IsFirst-from_position _ _ c.position.result (λ x. among x ≡ true) (λ x. among x ≡ false) c.position.ensures.ran (YieldsList-from_slice a.sets.now (search rules)) (λ x q h. search rules) (λ x q h. search rules) in
    c.unwrap_or.ensures
    ∙ sym (index_from_first (position_or_len among) (λ x. among x ≡ true) (λ x. among x ≡ false) (none among) (here among) (behind among) a.sets.now c.position.result found)
    ∙ same_position among (λ x. possible a.due.now a.a x) a.sets.now (λ i. subset_possible a.due.now a.a (get_or a.sets.now i 0) s (c.type_inv.sets i).fits c.causes-causes.type_inv c.causes-causes.ensures)
