-- A count by `try_fold`: each turn reads one of the fields left, and adds one or ends the count. What is counted are all the fields,
-- or none where one isn't an activity. Assumes nothing.
use Rattle.std.proofs.Common.{ℕ, ◌≡◌, ◌+◌, ◌∷◌, [], List, Option, Some, None, cond, length, refl, sym, subst, ◌∙◌, arith, Bor}
use denote.Param.Members.{Mut}
use Rattle.std.specs.List.{FoldsTo, sum_by}
use Rattle.std.proofs.lemmas.List.Sums.{sum_by-cons}
use Rattle.std.specs.Fn.{Called}
use Rattle.std.specs.Iterator.{Yields, TryFoldTurn, TryFoldsItems, YieldsFirstRef}
use Rattle.std.specs.Option.{MatchOption, option_map}
use Rattle.std.specs.ControlFlow.{continue_value}
use Rattle.text.specs.Decimal.{parse_number, all_numbers}
use Rattle.text.specs.Members.{highest}
use Rattle.logfile.proofs.EntryLaws.{Counting, counting-start, counting_refused, counting_more, counting_end}

-- one more, if the number was read
pub more_read : (n m : ℕ) (o : Option ℕ) → Some m ≡ option_map (λ _. n + 1) o → (k : ℕ) × (o ≡ Some k) × (m ≡ n + 1)
more_read n m None e = cc
more_read n m (Some k) e = (k, refl, cc)

none_read : (n : ℕ) (o : Option ℕ) → None ≡ option_map (λ _. n + 1) o → o ≡ None
none_read n None e = refl
none_read n (Some k) e = cc

-- one for each field is as many as there are
pub ones : (fs : List (List ℕ)) → sum_by (λ _. 1) fs ≡ length fs
ones [] = refl
ones (f ∷ fs) = omega (arith, sum_by-cons (λ _. 1) f fs, ones fs)

module _ {S F : Type 0} (E : Type 0) (left : S → List (List ℕ)) (g : Mut F (ℕ × (Bor (List ℕ) × Unit {0})) (Option ℕ)) (fs : List (List ℕ))
    (says : (f : F) (n : ℕ) (x : Bor (List ℕ)) (r : Option ℕ) (q : F) → Called g f (n, (x, tt)) r q → r ≡ option_map (λ _. n + 1) (parse_number highest x.now)) where
  turns : (xs : List (Bor (List ℕ))) (s t : S) (p q : F × ℕ) → Yields (YieldsFirstRef left) s xs t → FoldsTo (TryFoldTurn {E = E} g (λ r c. r ≡ continue_value c)) p xs q
      → Counting fs p.1 (left s) → Counting fs q.1 (left t)
  turns [] s t p q y c i = subst (λ z. Counting fs q.1 (left z)) y (subst (λ z. Counting fs z.1 (left s)) c i)
  turns (x ∷ xs) s t p q y c i =
      let m = more_read p.1 c.0.1 (parse_number highest x.now) (sym c.1.2 ∙ says p.0 p.1 x c.1.0 c.0.0 c.1.1) in
      turns xs y.0 t c.0 q y.2 c.2 (rw m.2 (counting_more fs p.1 (left s) i x.now (left y.0) m.0 y.1 m.1))

  ends : (o : Option (Bor (List ℕ))) (t u : S) (f : F) (a : ℕ) (r : Option ℕ) → YieldsFirstRef left t o u → Counting fs a (left t)
      → MatchOption o (r ≡ Some a) (λ x. (v : Option ℕ) × (h : F) × (e : E) × Called g f (a, (x, tt)) v h × (v ≡ None) × (r ≡ None))
      → r ≡ cond (all_numbers highest fs) (Some (length fs)) None
  ends None t u f a r s i m = let w = counting_end fs a (left t) i s.0 in rw (w.0, ← w.1) m
  ends (Some x) t u f a r s i m =
      rw (counting_refused fs a (left t) i x.now (left u) s (none_read a (parse_number highest x.now) (sym m.4 ∙ says f a x m.0 m.1 m.3))) m.5

  pub counts : (s u : S) (f : F) (r : Option ℕ) → left s ≡ fs → TryFoldsItems (YieldsFirstRef left) {E = E} g (λ v c. v ≡ continue_value c) (λ _ v. v ≡ None) s f 0 r u
      → r ≡ cond (all_numbers highest fs) (Some (length fs)) None
  counts s u f r e ran = ends ran.1 ran.4.0 u ran.2 ran.3 r ran.4.2 (turns ran.0 s ran.4.0 (f, 0) (ran.2, ran.3) ran.4.1 ran.5 (counting-start fs (left s) e)) ran.6
