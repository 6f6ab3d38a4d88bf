-- What a step reports and leaves, by whether its binding is possible, and what its report shows. The total that is carried fits:
-- a possible binding takes no more than there is, and the counts of a state bound their total. Assumes nothing.
use Rattle.std.proofs.Common.{ℕ, suc, ◌+◌, ◌-◌, ◌*◌, ◌≤◌, ◌<◌, ◌≡◌, refl, ap, ◌∙◌, Bool, true, false, cond, List, [], ◌∷◌, ⊎_elim, arith, length, get_or, Some, None}
use Rattle.obligations.specs.Sets.{size}
use Rattle.obligations.specs.State.{possible, after, total, step_says, step_gives, State, most_due}
use Rattle.obligations.specs.Sequence.{Binding, Possible}
use Rattle.obligations.specs.Statements.{StepSaid}
use Rattle.obligations.proofs.BoolLaws.{true_or_false, false-not-true}
use Rattle.obligations.proofs.MemberLaws.{size_le}
use Rattle.obligations.proofs.CountLaws.{possible-count, count-possible}
use Rattle.obligations.proofs.TotalLaws.{taken-total, after-total}

-- ---- the total that is carried

total_le : (n : ℕ) (d : List ℕ) → ((i : ℕ) → get_or d i 0 ≤ n) → total d ≤ length d * n
unfolding total
total_le n [] h = omega arith
total_le n (x ∷ xs) h = omega (arith, h 0, total_le n xs (λ i. h (suc i)))

module _ (d : List ℕ) (a x : ℕ) (k : State most_due d) (h : a < 32) (t : possible d a x ≡ true) where
  -- x takes no more than there is
  pub carried_less : size x ≤ total d
  carried_less = omega (arith, taken-total d a x k.long h t)

  -- and with what y adds it fits 32 bits
  pub carried_fits : (y : ℕ) → (total d - size x) + size y < 4294967296
  carried_fits y =
      let l : total d ≤ length d * most_due = total_le most_due d k.small in
      omega (arith, l, k.long, size_le y)

  pub carried : (y : ℕ) → total (after d a x y) ≡ (total d - size x) + size y
  carried y = omega (arith, carried_less, after-total d a x y k.long h t)

-- ---- by whether the binding is possible

module _ (d : List ℕ) (a x y : ℕ) where
  pub says_possible : possible d a x ≡ true → step_says d a x y ≡ Some (total (after d a x y))
  unfolding step_says
  says_possible t = rw t

  pub says_not : possible d a x ≡ false → step_says d a x y ≡ None
  unfolding step_says
  says_not f = rw f

  pub gives_possible : possible d a x ≡ true → step_gives d a x y ≡ after d a x y
  unfolding step_gives
  gives_possible t = rw t

  pub gives_not : possible d a x ≡ false → step_gives d a x y ≡ d
  unfolding step_gives
  gives_not f = rw f

  -- what a report shows
  pub total_said : (k : ℕ) → step_says d a x y ≡ Some k → (possible d a x ≡ true) × (total (after d a x y) ≡ k)
  unfolding step_says
  total_said k e = go (possible d a x) (total (after d a x y)) e
    where
      go : (b : Bool) (l : ℕ) → cond b (Some l) None ≡ Some k → (b ≡ true) × (l ≡ k)
      go true l q = (refl, cc)
      go false l q = absurd (let z : ◌≡◌ {A = ℕ} 0 1 = cc in omega arith)

  pub impossible_said : step_says d a x y ≡ None → possible d a x ≡ false
  unfolding step_says
  impossible_said e = go (possible d a x) (total (after d a x y)) e
    where
      go : (b : Bool) (l : ℕ) → cond b (Some l) None ≡ None → b ≡ false
      go true l q = absurd (let z : ◌≡◌ {A = ℕ} 0 1 = cc in omega arith)
      go false l q = refl

-- ---- said of every count

pub step_said : (d : List ℕ) (b : Binding) → StepSaid d b
step_said d b =
    let a = b.activity in
    let x = b.input in
    let y = b.output in
    record {
      total_exactly = λ k. (
        (λ e. let s = total_said d a x y k e in (possible-count d a x s.0, s.1)),
        (λ w. says_possible d a x y (count-possible d a x w.0) ∙ ap Some w.1),
      );
      impossible_exactly = (
        (λ e w. false-not-true (impossible_said d a x y e) (count-possible d a x w)),
        (λ n. says_not d a x y (not_possible n)),
      );
      changed_if = λ w. gives_possible d a x y (count-possible d a x w);
      same_if_not = λ n. gives_not d a x y (not_possible n);
    }
  where
    not_possible : (Possible d b → ⊥) → possible d b.activity b.input ≡ false
    not_possible n = ⊎_elim (λ t. absurd (n (possible-count d b.activity b.input t))) (λ f. f) (true_or_false (possible d b.activity b.input))
