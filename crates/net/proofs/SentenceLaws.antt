-- How a chain of tests answers as a list of sentences says (specs/Sentences.antt), proved once for all calls. A chain is followed
-- link by link: where a link's test passes, its sentence holds nowhere and the rest of the chain answers for the rest of the
-- list; where it fails, its sentence holds at the place returned. So the answer is the first sentence of the list that holds.
-- As the numbers ascend along the list in the papers' order, none before it holds; and as each sentence has one place, no other
-- answer is as listed.
-- Of one sentence in such a list it follows that it is given exactly if none before it holds and it does. Of a file the same is done
-- line by line. Assumes nothing.
use Prim.Native.Nat.{ℕ, zero, suc, ◌≤◌, ◌<◌}
use mathlib.Core.Path.{◌≡◌, refl, sym, ap, subst, ◌∙◌}
use mathlib.Core.Bool.{Bool, true, false, cond, ◌&&◌}
use mathlib.Core.List.{List, [], ◌∷◌, ◌++◌}
use mathlib.Core.Logic.{◌↔◌, ◌⊎◌, inl, inr, ⊎_elim}
use native.Mathlib.Omega.{arith}
use borrow.Author.Tests.{ne_eqb, ltb-true}
use lib.Dec.{eqb, ltb}
use Rattle.obligations.proofs.BoolLaws.{and_left, and_right, false-not-true}
use Rattle.obligations.proofs.SetLaws.{lt_or_le}
use Rattle.net.specs.Refusals.{Says, accepted, refused}
use Rattle.net.specs.Sentences.{Whole, First, Lowest, Sentence, whole, first, lowest, number_of, HoldsAt, Holds, NoneHolds, order_of, IsGiven, order_on_line, IsGivenByLine, AsListed, AsListedByLine}

-- ---- a place is determined by its sentence

first_unique : {n : ℕ} {Bad : ℕ → Type 0} {p q : ℕ} → First n Bad p → First n Bad q → p ≡ q
first_unique {p} {q} f g =
    ⊎_elim (λ l. absurd (g.none_before f.others l f.bad))
    (λ l. ⊎_elim (λ k. absurd (f.none_before g.others k g.bad)) (λ k. omega (arith, f.at_place, g.at_place)) (lt_or_le g.others f.others)) (lt_or_le f.others g.others)

lowest_unique : {Bad : ℕ → Type 0} {p q : ℕ} → Lowest Bad p → Lowest Bad q → p ≡ q
lowest_unique {Bad} {p} {q} f g =
    ⊎_elim (λ l. absurd (g.none_lower p l f.bad)) (λ l. ⊎_elim (λ k. absurd (f.none_lower q k g.bad)) (λ k. omega arith) (lt_or_le q p)) (lt_or_le p q)

place_unique : (s : Sentence) {p q : ℕ} → HoldsAt s p → HoldsAt s q → p ≡ q
place_unique (whole n Bad) f g = f.at_none ∙ sym g.at_none
place_unique (first n k Bad) f g = first_unique f g
place_unique (lowest n Bad) f g = lowest_unique f g

-- ---- sentences about a whole call or line

pub holds-whole : {Bad : Type 0} → Bad → Whole Bad 0
holds-whole b = record { bad = b; at_none = refl }

pub not-whole : {Bad : Type 0} → (Bad → ⊥) → (place : ℕ) → Whole Bad place → ⊥
not-whole f place w = f w.bad

-- every sentence of a list is one
abbrev pub all_whole : List Sentence → Bool
all_whole [] = true
all_whole (whole n Bad ∷ ss) = all_whole ss
all_whole (first n k Bad ∷ ss) = false
all_whole (lowest n Bad ∷ ss) = false

-- ---- lists whose numbers ascend in an order

module _ (rank : ℕ → ℕ) where
  -- the numbers' ranks ascend along the list, and the first is above k
  abbrev pub ascends : ℕ → List Sentence → Bool
  ascends k [] = true
  ascends k (s ∷ ss) = ltb k (rank (number_of s)) && ascends (rank (number_of s)) ss

  holds_above : (k : ℕ) (ss : List Sentence) → ascends k ss ≡ true → (n p : ℕ) → Holds ss n p → k < rank n
  holds_above k [] a n p h = absurd h
  holds_above k (s ∷ ss) a n p (inl h) = rw (← h.0) (ltb-true k (rank (number_of s)) (and_left (ltb k (rank (number_of s))) _ a))
  holds_above k (s ∷ ss) a n p (inr h) =
      let l = ltb-true k (rank (number_of s)) (and_left (ltb k (rank (number_of s))) _ a) in
      let m = holds_above (rank (number_of s)) ss (and_right (ltb k (rank (number_of s))) _ a) n p h in omega arith

  -- one number of the list has one place
  holds_unique : (k : ℕ) (ss : List Sentence) → ascends k ss ≡ true → (n m p q : ℕ) → rank n ≡ rank m → Holds ss n p → Holds ss m q → (n ≡ m) × (p ≡ q)
  holds_unique k [] a n m p q e f g = absurd f
  holds_unique k (s ∷ ss) a n m p q e (inl f) (inl g) = (sym f.0 ∙ g.0, place_unique s f.1 g.1)
  holds_unique k (s ∷ ss) a n m p q e (inl f) (inr g) =
      let l = holds_above (rank (number_of s)) ss (and_right (ltb k (rank (number_of s))) _ a) m q g in
      let r : rank (number_of s) ≡ rank n = ap rank f.0 in absurd (omega arith)
  holds_unique k (s ∷ ss) a n m p q e (inr f) (inl g) =
      let l = holds_above (rank (number_of s)) ss (and_right (ltb k (rank (number_of s))) _ a) n p f in
      let r : rank (number_of s) ≡ rank m = ap rank g.0 in absurd (omega arith)
  holds_unique k (s ∷ ss) a n m p q e (inr f) (inr g) = holds_unique (rank (number_of s)) ss (and_right (ltb k (rank (number_of s))) _ a) n m p q e f g

-- ---- the first of a list that holds

abbrev pub InOrder : List Sentence → ℕ → ℕ → Type 0
InOrder [] n p = ⊥
InOrder (s ∷ ss) n p = ((number_of s ≡ n) × HoldsAt s p) ⊎ (((q : ℕ) → HoldsAt s q → ⊥) × InOrder ss n p)

order_holds : (ss : List Sentence) (n p : ℕ) → InOrder ss n p → Holds ss n p
order_holds [] n p o = o
order_holds (s ∷ ss) n p (inl h) = inl h
order_holds (s ∷ ss) n p (inr o) = inr (order_holds ss n p o.1)

order_first : (rank : ℕ → ℕ) (k : ℕ) (ss : List Sentence) → ascends rank k ss ≡ true → (n p : ℕ) → InOrder ss n p → (m q : ℕ) → rank m < rank n → Holds ss m q → ⊥
order_first rank k [] a n p o m q l h = h
order_first rank k (s ∷ ss) a n p (inl o) m q l (inl h) = let e : rank m ≡ rank n = ap rank (sym h.0 ∙ o.0) in omega arith
order_first rank k (s ∷ ss) a n p (inl o) m q l (inr h) =
    let b = holds_above rank (rank (number_of s)) ss (and_right (ltb k (rank (number_of s))) _ a) m q h in
    let e : rank (number_of s) ≡ rank n = ap rank o.0 in omega arith
order_first rank k (s ∷ ss) a n p (inr o) m q l (inl h) = o.0 q h.1
order_first rank k (s ∷ ss) a n p (inr o) m q l (inr h) = order_first rank (rank (number_of s)) ss (and_right (ltb k (rank (number_of s))) _ a) n p o.1 m q l h

-- ---- one sentence of a list, with those before and after it

holds_either : (before after : List Sentence) (n p : ℕ) → Holds (before ++ after) n p → Holds before n p ⊎ Holds after n p
holds_either [] after n p h = inr h
holds_either (s ∷ ss) after n p (inl h) = inl (inl h)
holds_either (s ∷ ss) after n p (inr h) = ⊎_elim (λ b. inl (inr b)) inr (holds_either ss after n p h)

either_holds : (before after : List Sentence) (n p : ℕ) → Holds before n p ⊎ Holds after n p → Holds (before ++ after) n p
either_holds [] after n p (inl h) = absurd h
either_holds [] after n p (inr h) = h
either_holds (s ∷ ss) after n p (inl (inl h)) = inl h
either_holds (s ∷ ss) after n p (inl (inr h)) = inr (either_holds ss after n p (inl h))
either_holds (s ∷ ss) after n p (inr h) = inr (either_holds ss after n p (inr h))

module _ (rank : ℕ → ℕ) (s : Sentence) (after : List Sentence) where
  above_before : (k : ℕ) (before : List Sentence) → ascends rank k (before ++ (s ∷ after)) ≡ true → k < rank (number_of s)
  above_before k [] a = ltb-true k (rank (number_of s)) (and_left (ltb k (rank (number_of s))) _ a)
  above_before k (b ∷ bs) a =
      let l = ltb-true k (rank (number_of b)) (and_left (ltb k (rank (number_of b))) _ a) in
      let m = above_before (rank (number_of b)) bs (and_right (ltb k (rank (number_of b))) _ a) in omega arith

  before_lower : (k : ℕ) (before : List Sentence) → ascends rank k (before ++ (s ∷ after)) ≡ true → (n p : ℕ) → Holds before n p → rank n < rank (number_of s)
  before_lower k [] a n p h = absurd h
  before_lower k (b ∷ bs) a n p (inl h) = rw (← h.0) (above_before (rank (number_of b)) bs (and_right (ltb k (rank (number_of b))) _ a))
  before_lower k (b ∷ bs) a n p (inr h) = before_lower (rank (number_of b)) bs (and_right (ltb k (rank (number_of b))) _ a) n p h

  after_higher : (k : ℕ) (before : List Sentence) → ascends rank k (before ++ (s ∷ after)) ≡ true → (n p : ℕ) → Holds after n p → rank (number_of s) < rank n
  after_higher k [] a n p h = holds_above rank (rank (number_of s)) after (and_right (ltb k (rank (number_of s))) _ a) n p h
  after_higher k (b ∷ bs) a n p h = after_higher (rank (number_of b)) bs (and_right (ltb k (rank (number_of b))) _ a) n p h

-- a refusal of a list in the papers' order is given exactly if none before it holds and it does
pub given_exactly : (before : List Sentence) (s : Sentence) (after : List Sentence) → ascends order_of 0 (before ++ (s ∷ after)) ≡ true
    → (place : ℕ) → IsGiven (before ++ (s ∷ after)) (number_of s) place ↔ (NoneHolds before × HoldsAt s place)
given_exactly before s after a place = (
  (λ g. (
    (λ n p h. g.none_before n p (before_lower order_of s after 0 before a n p h) (either_holds before (s ∷ after) n p (inl h))),
    here (holds_either before (s ∷ after) (number_of s) place g.holds),
  )),
  (λ w. record {
    holds = either_holds before (s ∷ after) (number_of s) place (inr (inl (refl, w.1)));
    none_before = λ n p l h. earlier w.0 n p l (holds_either before (s ∷ after) n p h);
  }),
)
  where
    here : Holds before (number_of s) place ⊎ Holds (s ∷ after) (number_of s) place → HoldsAt s place
    here (inl h) = let l = before_lower order_of s after 0 before a (number_of s) place h in absurd (omega arith)
    here (inr (inl h)) = h.1
    here (inr (inr h)) = let l = after_higher order_of s after 0 before a (number_of s) place h in absurd (omega arith)

    earlier : NoneHolds before → (n p : ℕ) → order_of n < order_of (number_of s) → Holds before n p ⊎ Holds (s ∷ after) n p → ⊥
    earlier none n p l (inl h) = none n p h
    earlier none n p l (inr (inl h)) = let e : order_of (number_of s) ≡ order_of n = ap order_of h.0 in omega arith
    earlier none n p l (inr (inr h)) = let m = after_higher order_of s after 0 before a n p h in omega arith

-- of sentences about a whole line the one that holds has place 0
whole-places : (ss : List Sentence) → all_whole ss ≡ true → (n p : ℕ) → InOrder ss n p → p ≡ 0
whole-places [] w n p o = absurd o
whole-places (whole k Bad ∷ ss) w n p o = ⊎_elim (λ h. h.1.at_none) (λ h. whole-places ss w n p h.1) o
whole-places (first k m Bad ∷ ss) w n p o = absurd (false-not-true refl w)
whole-places (lowest k Bad ∷ ss) w n p o = absurd (false-not-true refl w)

-- ---- chains

-- an answer to a list: `value` where no sentence holds, else the first that does
pub data Told {A : Type 0} (refusal : ℕ → ℕ → A) (ss : List Sentence) (value : A) : A → Type 0 where
  passed : NoneHolds ss → Told refusal ss value value
  stopped : (n p : ℕ) → InOrder ss n p → Told refusal ss value (refusal n p)

module _ {A : Type 0} (refusal : ℕ → ℕ → A) (value : A) where
  pub told_end : Told refusal [] value value
  told_end = passed (λ n p h. h)

  told_more : (s : Sentence) (ss : List Sentence) (rest : A) → ((q : ℕ) → HoldsAt s q → ⊥) → Told refusal ss value rest → Told refusal (s ∷ ss) value rest
  told_more s ss rest none (passed f) = passed (λ n p. ⊎_elim (λ h. none p h.1) (f n p))
  told_more s ss rest none (stopped n p o) = stopped n p (inr (none, o))

  -- one link: the test fails exactly where the sentence holds, with this place
  pub told_link : (s : Sentence) (ss : List Sentence) (test : Bool) (place : ℕ) (rest : A)
      → (test ≡ true → (q : ℕ) → HoldsAt s q → ⊥) → (test ≡ false → HoldsAt s place) → (test ≡ true → Told refusal ss value rest)
      → Told refusal (s ∷ ss) value (cond test rest (refusal (number_of s) place))
  told_link s ss true place rest none some next = told_more s ss rest (none refl) (next refl)
  told_link s ss false place rest none some next = stopped (number_of s) place (inl (refl, some refl))

  -- the links of the three kinds of sentences
  pub whole_link : (n : ℕ) (Bad : Type 0) (ss : List Sentence) (test : Bool) (rest : A)
      → (test ≡ true → Bad → ⊥) → (test ≡ false → Bad) → (test ≡ true → Told refusal ss value rest)
      → Told refusal (whole n Bad ∷ ss) value (cond test rest (refusal n 0))
  whole_link n Bad ss test rest none some next =
      told_link (whole n Bad) ss test 0 rest (λ e. not-whole (none e)) (λ e. holds-whole (some e)) next

  pub first_link : (n k : ℕ) (Bad : ℕ → Type 0) (ss : List Sentence) (place : ℕ) (rest : A)
      → (place ≡ 0 → (i : ℕ) → i < k → Bad i → ⊥) → ((i : ℕ) → place ≡ suc i → First k Bad (suc i)) → (place ≡ 0 → Told refusal ss value rest)
      → Told refusal (first n k Bad ∷ ss) value (cond (eqb place 0) rest (refusal n place))
  first_link n k Bad ss zero rest none some next =
      told_link (first n k Bad) ss true zero rest (λ e q h. none refl h.others h.inside h.bad) (λ e. absurd (false_true e)) (λ e. next refl)
    where
      false_true : true ≡ false → ⊥
      false_true e = let z : ◌≡◌ {A = ℕ} 0 1 = cc in omega arith
  first_link n k Bad ss (suc i) rest none some next =
      rw (ne_eqb (suc i) 0 (λ e. omega arith)) (stopped_here (some i refl))
    where
      stopped_here : First k Bad (suc i) → Told refusal (first n k Bad ∷ ss) value (refusal n (suc i))
      stopped_here f = stopped n (suc i) (inl (refl, f))

-- an answer that is given by what a chain says
pub told-map : {A B : Type 0} (refusal : ℕ → ℕ → A) (refusal' : ℕ → ℕ → B) (f : A → B) → ((n p : ℕ) → f (refusal n p) ≡ refusal' n p)
    → (ss : List Sentence) (value answer : A) → Told refusal ss value answer → Told refusal' ss (f value) (f answer)
told-map refusal refusal' f same ss value answer (passed none) = passed none
told-map refusal refusal' f same ss value answer (stopped n p o) = rw (same n p) (stopped n p o)

-- ---- what a chain's answer shows

module _ {A : Type 0} (refusal : ℕ → ℕ → A) (same : (n m p q : ℕ) → refusal n p ≡ refusal m q → (n ≡ m) × (p ≡ q)) (value : A) (accepts : (n p : ℕ) → value ≡ refusal n p → ⊥) where
  pub told_listed : (ss : List Sentence) → ascends order_of 0 ss ≡ true → {answer : A} → Told refusal ss value answer → AsListed refusal ss answer
  told_listed ss a (passed none) = record {
    refused_exactly = λ n p. ((λ e. absurd (accepts n p e)), (λ l. absurd (none n p l.holds)));
    not_refused_exactly = ((λ f. none), (λ f n p e. accepts n p e));
    given_or_none = inl none;
  }
  told_listed ss a (stopped m q o) =
      let h = order_holds ss m q o in
      let here : IsGiven ss m q = record { holds = h; none_before = order_first order_of 0 ss a m q o } in
      record {
        refused_exactly = λ n p. (
          (λ e. let s = same m n q p e in subst (λ (x : ℕ). IsGiven ss x p) s.0 (subst (λ (x : ℕ). IsGiven ss m x) s.1 here)),
          (λ l.
              let e = same_order here l in
              let u = holds_unique order_of 0 ss a m n q p e h l.holds in ap (λ (x : ℕ). refusal x q) u.0 ∙ ap (refusal n) u.1),
        );
        not_refused_exactly = ((λ f. absurd (f m q refl)), (λ none. absurd (none m q h)));
        given_or_none = inr (m, q, here);
      }
    where
      same_order : {m n q p : ℕ} → IsGiven ss m q → IsGiven ss n p → order_of m ≡ order_of n
      same_order {m} {n} {q} {p} f g =
          ⊎_elim (λ l. absurd (g.none_before m q l f.holds)) (λ l. ⊎_elim (λ k. absurd (f.none_before n p k g.holds)) (λ k. omega arith) (lt_or_le (order_of n) (order_of m))) (lt_or_le (order_of m) (order_of n))

-- ---- by line

-- an answer to the lines from `line` on: `value` where no sentence of them holds, else the first on the first line with any
pub data ToldFrom {A : Type 0} (refusal : ℕ → ℕ → A) (ss : ℕ → List Sentence) (value : A) (line : ℕ) : A → Type 0 where
  passed_all : ((l : ℕ) → line ≤ l → NoneHolds (ss l)) → ToldFrom refusal ss value line value
  stopped_on : (n l : ℕ) → line ≤ l → ((k : ℕ) → line ≤ k → k < l → NoneHolds (ss k)) → InOrder (ss l) n 0 → ToldFrom refusal ss value line (refusal n l)

module _ {A : Type 0} (refusal : ℕ → ℕ → A) (ss : ℕ → List Sentence) (value : A) where
  -- a line of which no sentence holds, and the lines after it
  pub line_passes : (line : ℕ) (answer : A) → NoneHolds (ss line) → ToldFrom refusal ss value (suc line) answer → ToldFrom refusal ss value line answer
  line_passes line answer none (passed_all f) = passed_all (λ l h. ⊎_elim (λ k. f l k) (λ k. let e : line ≡ l = omega arith in subst (λ (x : ℕ). NoneHolds (ss x)) e none) (lt_or_le line l))
  line_passes line answer none (stopped_on n l h f o) =
      stopped_on n l (omega arith) (λ k a b. ⊎_elim (λ c. f k c b) (λ c. let e : line ≡ k = omega arith in subst (λ (x : ℕ). NoneHolds (ss x)) e none) (lt_or_le line k)) o

  -- a line of which one holds
  pub line_stops : (line n : ℕ) → InOrder (ss line) n 0 → ToldFrom refusal ss value line (refusal n line)
  line_stops line n o = stopped_on n line (omega arith) (λ k a b. omega arith) o

  -- one line's chain, of sentences about the whole line, whose answer says its number; and the lines after it
  pub line_told : {B : Type 0} (stop : ℕ → ℕ → B) (go : B) (said : B) (line : ℕ) (answer : B → A) → ((n p : ℕ) → answer (stop n p) ≡ refusal n line)
      → Told stop (ss line) go said → all_whole (ss line) ≡ true → (said ≡ go → ToldFrom refusal ss value (suc line) (answer go)) → ToldFrom refusal ss value line (answer said)
  line_told stop go said line answer same (passed none) w next = line_passes line (answer go) none (next refl)
  line_told stop go said line answer same (stopped n p o) w next =
      rw (same n p) (line_stops line n (subst (λ (x : ℕ). InOrder (ss line) n x) (whole-places (ss line) w n p o) o))

  module _ (same : (n m p q : ℕ) → refusal n p ≡ refusal m q → (n ≡ m) × (p ≡ q)) (accepts : (n p : ℕ) → value ≡ refusal n p → ⊥) (a : (l : ℕ) → ascends order_on_line 0 (ss l) ≡ true) where
    same_line : {m n k l : ℕ} → IsGivenByLine ss m k → IsGivenByLine ss n l → k ≡ l
    same_line {m} {n} {k} {l} f g =
        ⊎_elim (λ h. absurd (g.lines_before k h m 0 f.holds)) (λ h. ⊎_elim (λ j. absurd (f.lines_before l j n 0 g.holds)) (λ j. omega arith) (lt_or_le l k)) (lt_or_le k l)

    same_order : {m n k : ℕ} → IsGivenByLine ss m k → IsGivenByLine ss n k → m ≡ n
    same_order {m} {n} {k} f g =
        let e : order_on_line m ≡ order_on_line n = ⊎_elim (λ h. absurd (g.none_before m 0 h f.holds)) (λ h. ⊎_elim (λ j. absurd (f.none_before n 0 j g.holds)) (λ j. omega arith) (lt_or_le (order_on_line n) (order_on_line m))) (lt_or_le (order_on_line m) (order_on_line n)) in
        (holds_unique order_on_line 0 (ss k) (a k) m n 0 0 e f.holds g.holds).0

    pub told_by_line : {answer : A} → ToldFrom refusal ss value 0 answer → AsListedByLine refusal ss answer
    told_by_line (passed_all none) = record {
      refused_exactly = λ n p. ((λ e. absurd (accepts n p e)), (λ l. absurd (none p (omega arith) n 0 l.holds)));
      not_refused_exactly = ((λ f l. none l (omega arith)), (λ f n p e. accepts n p e));
      given_or_none = inl (λ l. none l (omega arith));
    }
    told_by_line (stopped_on m k h before o) =
        let here : IsGivenByLine ss m k = record { holds = order_holds (ss k) m 0 o; lines_before = λ l j. before l (omega arith) j; none_before = order_first order_on_line 0 (ss k) (a k) m 0 o } in
        record {
          refused_exactly = λ n p. (
            (λ e. let s = same m n k p e in subst (λ (x : ℕ). IsGivenByLine ss x p) s.0 (subst (λ (x : ℕ). IsGivenByLine ss m x) s.1 here)),
            (λ l.
                let e = same_line here l in
                let there : IsGivenByLine ss n k = subst (λ (x : ℕ). IsGivenByLine ss n x) (sym e) l in ap (λ (x : ℕ). refusal x k) (same_order here there) ∙ ap (refusal n) e),
          );
          not_refused_exactly = ((λ f. absurd (f m k refl)), (λ none. absurd (none k m 0 here.holds)));
          given_or_none = inr (m, k, here);
        }

-- ---- chains that end in what a record says

pub refused-same : (n m p q : ℕ) → refused n p ≡ refused m q → (n ≡ m) × (p ≡ q)
refused-same n m p q e = (ap (λ (s : Says). s.refusal) e, ap (λ (s : Says). s.place) e)

pub accepted-not-refused : (v n p : ℕ) → accepted v ≡ refused n p → ⊥
accepted-not-refused v n p e = false-not-true refl (sym (ap (λ (s : Says). s.ok) e))

pub chain_listed : (ss : List Sentence) → ascends order_of 0 ss ≡ true → (v : ℕ) {answer : Says} → Told refused ss (accepted v) answer → AsListed refused ss answer
chain_listed ss a v t = told_listed refused refused-same (accepted v) (accepted-not-refused v) ss a t

-- where no refusal holds the chain's value is said, and only there
pub told-accepted : (ss : List Sentence) (v : ℕ) {answer : Says} → Told refused ss (accepted v) answer → (answer ≡ accepted v) ↔ NoneHolds ss
told-accepted ss v (passed none) = ((λ e. none), (λ e. refl))
told-accepted ss v (stopped n p o) = ((λ e. absurd (accepted-not-refused v n p (sym e))), (λ none. absurd (none n p (order_holds ss n p o))))

-- with a value, where none holds and it is the chain's
pub told-value : (ss : List Sentence) (v w : ℕ) {answer : Says} → Told refused ss (accepted v) answer → (answer ≡ accepted w) ↔ (NoneHolds ss × (w ≡ v))
told-value ss v w (passed none) = ((λ e. (none, sym (ap (λ (s : Says). s.value) e))), (λ h. ap accepted (sym h.1)))
told-value ss v w (stopped n p o) = ((λ e. absurd (accepted-not-refused w n p (sym e))), (λ h. absurd (h.0 n p (order_holds ss n p o))))

pub told-ok : (ss : List Sentence) (v : ℕ) {answer : Says} → Told refused ss (accepted v) answer → answer.ok ≡ true → answer ≡ accepted v
told-ok ss v (passed none) e = refl
told-ok ss v (stopped n p o) e = absurd (false-not-true refl e)
