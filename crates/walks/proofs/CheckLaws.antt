-- What the check says of an orderly net: the set of lost activities has exactly those of the net on no walk, that of unanswered
-- ones exactly those with a name that isn't answered, and where both are empty the net passes. Assumes nothing.
use Prim.Native.Nat.{ℕ, ◌<◌}
use mathlib.Core.Path.{◌≡◌, refl, sym, ap, ◌∙◌}
use mathlib.Core.Logic.{◌⊎◌, inl, inr, ⊎_elim, ◌↔◌}
use native.Mathlib.Decide.{ℕ_discrete as dec_eq}
use mathlib.Core.Bool.{Bool, true, false, not, cond, ◌&&◌, ◌||◌}
use mathlib.Core.List.{List, [], ◌∷◌}
use borrow.Author.Tests.{eq-eqb, not-true}
use lib.Dec.{eqb}
use Rattle.obligations.specs.Sets.{member}
use Rattle.obligations.proofs.BoolLaws.{true_or_false, false-not-true, and_left, and_right, and_both, or_left, or_right, or_cases}
use Rattle.obligations.proofs.SetLaws.{member_none, member-activity}
use Rattle.net.specs.Refusals.{accepted, refused, refusal_number, on_no_walk, name_unanswered, Says, disorderly}
use Rattle.net.specs.Sentences.{Sentence, NoneHolds, AsListed}
use Rattle.net.specs.Sides.{opposite}
use Rattle.net.specs.Orderly.{orderly, Orderly}
use Rattle.net.specs.Common.{not_orderly}
use Rattle.net.specs.declared.Net.{Net}
use Rattle.net.specs.declared.refusal.Refused.{Refused}
use Rattle.std.proofs.Common.{Result, Ok, Err}
use Rattle.net.specs.declared.sides.Side.{Side}
use Rattle.net.specs.declared.sides.Side.TheVariants.{Input, Output}
use Rattle.net.proofs.OrderlyLaws.{orderly_facts, on_side_activity}
use Rattle.net.proofs.SentenceLaws.{holds-whole, Told, told_end, chain_listed}
use Rattle.net.proofs.CommonLaws.{orderly_some, orderly_link}
use Rattle.net.proofs.ChainLaws.{unless-passes}
use Rattle.walks.specs.Arcs.{Names, names, arcs}
use Rattle.walks.specs.Walk.{InNet, the_start, the_end, with_a_set, in_a_set, OnWalk, Passes}
use Rattle.walks.specs.Rows.{reach}
use Rattle.walks.specs.Check.{in_net, successors, predecessors, outside, Lost, activity_on_no_walk, Unanswered, unanswered_name, check_refusals, lost, unanswered_on, unanswered, lowest_member, check_means, passing, pass_says, check_says}
use Rattle.walks.proofs.BelowLaws.{any_true, true_any, member_those_at}
use Rattle.walks.proofs.ArcLaws.{names_facts}
use Rattle.walks.proofs.LinkLaws.{lost_lt, unanswered_lt}
use Rattle.walks.proofs.WalkLaws.{names_activity, in_net_facts, on_walk_facts}
use Rattle.walks.proofs.NoneInLaws.{Collects, empty_none, none_empty, lowest_bad, none_in_link, none_in-passes}

-- the check finds nothing in a net
abbrev pub Clear : Net → Type 0
Clear net = (lost net ≡ 0) × (unanswered net ≡ 0)

module _ (net : Net) (o : orderly net ≡ true) where
  -- ---- the lost activities

  -- each of the net's activities is one
  pub in_net_activity : (a : ℕ) → InNet net a → a < 32
  in_net_activity a (the_start e) = rw e (orderly_facts net o).start_activity
  in_net_activity a (the_end e) = rw e (orderly_facts net o).end_activity
  in_net_activity a (with_a_set side m h) = on_side_activity net o side a m h
  in_net_activity a (in_a_set side b l n) = l

  member_lost : (a : ℕ) → a < 32 → member (lost net) a ≡ in_net net a && not (member (reach (successors net) net.start) a && member (reach (predecessors net) net.end) a)
  unfolding lost outside
  member_lost a h = member_those_at (λ b. in_net net b && not (member (reach (successors net) net.start) b && member (reach (predecessors net) net.end) b)) a h

  lost_in_net : (a : ℕ) → a < 32 → member (lost net) a ≡ true → Lost net a
  lost_in_net a h e =
      let w = member (reach (successors net) net.start) a && member (reach (predecessors net) net.end) a in
      let t = sym (member_lost a h) ∙ e in
      ((in_net_facts net o a h).0 (and_left (in_net net a) (not w) t), (λ v. false-not-true (not_of w ((on_walk_facts net o a).1 v)) (and_right (in_net net a) (not w) t)))
    where
      not_of : (t : Bool) → t ≡ true → not t ≡ false
      not_of t e = rw e

  not_lost : (a : ℕ) → a < 32 → member (lost net) a ≡ false → InNet net a → OnWalk net a
  not_lost a h e i = (on_walk_facts net o a).0 (both (in_net net a) _ ((in_net_facts net o a h).1 i) (sym (member_lost a h) ∙ e))
    where
      both : (s t : Bool) → s ≡ true → s && not t ≡ false → t ≡ true
      both s true e f = refl
      both s false e f = absurd (false-not-true f (and_both e refl))

  lost_collects : Collects (lost net) (Lost net)
  lost_collects = record {
    small = lost_lt net;
    in_set = λ a. (
      (λ e. lost_in_net a (member-activity (lost net) a (lost_lt net) e) e),
      (λ l. ⊎_elim (λ e. e) (λ e. absurd (l.1 (not_lost a (in_net_activity a l.0) e l.0))) (true_or_false (member (lost net) a))),
    );
  }

  -- ---- the activities with a name that isn't answered

  test_unanswered : (side : Side) (a : ℕ) → unanswered_on net side a ≡ true → Unanswered net a
  unfolding unanswered_on
  test_unanswered side a e =
      let w = any_true (λ k. names net side a k && not (names net (opposite side) k a)) 32 e in
      let back = not-true (names net (opposite side) w.0 a) (and_right (names net side a w.0) (not (names net (opposite side) w.0 a)) w.2) in
      record {
        side = side;
        named_one = w.0;
        an_activity = w.1;
        names_it = (names_facts net side a w.0).0 (and_left (names net side a w.0) (not (names net (opposite side) w.0 a)) w.2);
        never_back = λ n. false-not-true back ((names_facts net (opposite side) w.0 a).1 n);
      }

  unanswered_test : (side : Side) (a k : ℕ) → k < 32 → Names net side a k → (Names net (opposite side) k a → ⊥) → unanswered_on net side a ≡ true
  unfolding unanswered_on
  unanswered_test side a k h n never =
      true_any (λ j. names net side a j && not (names net (opposite side) j a)) 32 k h
      (and_both ((names_facts net side a k).1 n) (⊎_elim (λ e. absurd (never ((names_facts net (opposite side) k a).0 e))) (λ e. rw e) (true_or_false (names net (opposite side) k a))))

  on_one : (side : Side) (a : ℕ) → unanswered_on net side a ≡ true → unanswered_on net Input a || unanswered_on net Output a ≡ true
  on_one Input a e = or_left (unanswered_on net Output a) e
  on_one Output a e = or_right (unanswered_on net Input a) e

  member_unanswered : (a : ℕ) → a < 32 → member (unanswered net) a ≡ unanswered_on net Input a || unanswered_on net Output a
  unfolding unanswered
  member_unanswered a h = member_those_at (λ b. unanswered_on net Input b || unanswered_on net Output b) a h

  unanswered_collects : Collects (unanswered net) (Unanswered net)
  unanswered_collects = record {
    small = unanswered_lt net;
    in_set = λ a. (
      (λ e. ⊎_elim (test_unanswered Input a) (test_unanswered Output a) (or_cases (unanswered_on net Input a) (unanswered_on net Output a) (sym (member_unanswered a (member-activity (unanswered net) a (unanswered_lt net) e)) ∙ e))),
      (λ u. member_unanswered a (names_activity net o u.side a u.named_one u.names_it) ∙ on_one u.side a (unanswered_test u.side a u.named_one u.an_activity u.names_it u.never_back)),
    );
  }

  -- where no name is unanswered, each is answered
  names_back : unanswered net ≡ 0 → (side : Side) (a k : ℕ) → k < 32 → Names net side a k → Names net (opposite side) k a
  names_back e side a k h n =
      ⊎_elim (names_facts net (opposite side) k a).0
      (λ f. absurd (empty_none unanswered_collects e a (record { side = side; named_one = k; an_activity = h; names_it = n; never_back = λ m. false-not-true f ((names_facts net (opposite side) k a).1 m) })))
      (true_or_false (names net (opposite side) k a))

  -- ---- the nets that pass

  none_lost_walks : lost net ≡ 0 → (a : ℕ) → InNet net a → OnWalk net a
  none_lost_walks e a i = not_lost a (in_net_activity a i) (ap (λ (m : ℕ). member m a) e ∙ member_none a) i

  pub clear_passes : Clear net → Passes net
  clear_passes c = record {
    is_orderly = orderly_facts net o;
    on_walks = none_lost_walks c.0;
    answered = λ p q hp hq. (names_back c.1 Input q p hp, names_back c.1 Output p q hq);
  }

  answers : Passes net → (side : Side) (a k : ℕ) → a < 32 → k < 32 → Names net side a k → Names net (opposite side) k a
  answers p Input a k ha hk = (p.answered k a hk ha).0
  answers p Output a k ha hk = (p.answered a k ha hk).1

  pub passes_clear : Passes net → Clear net
  passes_clear p = (
    none_empty lost_collects (λ a l. l.1 (p.on_walks a l.0)),
    none_empty unanswered_collects (λ a u. u.never_back (answers p u.side a u.named_one (names_activity net o u.side a u.named_one u.names_it) u.an_activity u.names_it)),
  )

  -- ---- what is said of an orderly net

  pub says_clear : Clear net → check_says net ≡ accepted (arcs net)
  unfolding check_says
  says_clear c = rw (o, eq-eqb (lost net) 0 c.0, eq-eqb (unanswered net) 0 c.1)

  -- the links of a chain whose sentences are refusals 6 and 19
  module _ {A : Type 0} (refusal : ℕ → ℕ → A) (value : A) (ss : List Sentence) (rest : A) where
    pub passing_link : (Clear net → Told refusal ss value rest)
        → Told refusal (activity_on_no_walk net ∷ unanswered_name net ∷ ss) value
        (cond (eqb (lost net) 0) (cond (eqb (unanswered net) 0) rest (refusal name_unanswered (lowest_member (unanswered net)))) (refusal on_no_walk (lowest_member (lost net))))
    passing_link next =
        none_in_link lost_collects refusal value on_no_walk _ _
        (λ e. none_in_link unanswered_collects refusal value name_unanswered ss rest (λ f. next (e, f)))

-- ---- the chain's part that a check says

module _ (net : Net) (rest : Says) where
  -- it passes exactly if the check finds nothing, and is then the rest
  pub passing_passes : ((passing net rest).ok ≡ true) ↔ (Clear net × (rest.ok ≡ true))
  passing_passes =
      let l = none_in-passes (lost net) on_no_walk _ in
      let u = none_in-passes (unanswered net) name_unanswered rest in (
        (λ e. let w = l.0 e in let v = u.0 w.1 in ((w.0, v.0), v.1)),
        (λ w. l.1 (w.0.0, u.1 (w.0.1, w.1))),
      )

  pub passing_rest : Clear net → passing net rest ≡ rest
  passing_rest c = rw (eq-eqb (lost net) 0 c.0, eq-eqb (unanswered net) 0 c.1)

  -- a refusal of the check is the chain's, whatever the rest is
  pub passing_refused : (v n p : ℕ) → passing net (accepted v) ≡ refused n p → passing net rest ≡ refused n p
  passing_refused v n p e = go (eqb (lost net) 0) (eqb (unanswered net) 0) e
    where
      go : (s t : Bool) → cond s (cond t (accepted v) (refused name_unanswered (lowest_member (unanswered net)))) (refused on_no_walk (lowest_member (lost net))) ≡ refused n p
          → cond s (cond t rest (refused name_unanswered (lowest_member (unanswered net)))) (refused on_no_walk (lowest_member (lost net))) ≡ refused n p
      go true true q = absurd (false-not-true refl (sym (ap (λ (s : Says). s.ok) q)))
      go true false q = q
      go false t q = q

-- what an answer of the check of an orderly net shows of a chain that goes on behind it
module _ (net : Net) (r : Result ℕ Refused) (e : check_means r ≡ pass_says net) where
  pub answer_clear : (n : ℕ) → r ≡ Ok n → Clear net
  answer_clear n q = ((passing_passes net (accepted (arcs net))).0 (ap (λ (s : Says). s.ok) (sym e ∙ ap check_means q))).0

  pub answer_refused : (rest : Says) (u : Refused) → r ≡ Err u → passing net rest ≡ refused (refusal_number u.refusal) u.place
  answer_refused rest u q = passing_refused net rest (arcs net) (refusal_number u.refusal) u.place (sym e ∙ ap check_means q)

-- ---- the call

pub check-told : (net : Net) → Told refused (check_refusals net) (accepted (arcs net)) (check_says net)
unfolding check_says
check-told net =
    orderly_link refused (accepted (arcs net)) _ _ net (λ o. passing_link net o refused (accepted (arcs net)) [] _ (λ c. told_end refused (accepted (arcs net))))

pub check-listed : (net : Net) → AsListed refused (check_refusals net) (check_says net)
check-listed net = chain_listed (check_refusals net) refl (arcs net) (check-told net)

-- 2 and 6 don't hold exactly of an orderly net with all its activities on walks
pub none_before_partners : (net : Net) → NoneHolds (not_orderly net ∷ activity_on_no_walk net ∷ []) ↔ (Orderly net × ((a : ℕ) → InNet net a → OnWalk net a))
none_before_partners net = (
  (λ none.
      let o = is_orderly none (true_or_false (orderly net)) in
      (orderly_facts net o, none_lost_walks net o (none_lost none o (dec_eq (lost net) 0)))),
  (λ w n p. ⊎_elim (λ h. h.1.bad w.0) (⊎_elim (λ h. h.1.bad.1 (w.1 p h.1.bad.0)) (λ h. h))),
)
  where
    is_orderly : NoneHolds (not_orderly net ∷ activity_on_no_walk net ∷ []) → (orderly net ≡ true) ⊎ (orderly net ≡ false) → orderly net ≡ true
    is_orderly none (inl e) = e
    is_orderly none (inr e) = absurd (none disorderly 0 (inl (refl, holds-whole (orderly_some net e))))

    none_lost : NoneHolds (not_orderly net ∷ activity_on_no_walk net ∷ []) → orderly net ≡ true → Dec (lost net ≡ 0) → lost net ≡ 0
    none_lost none o (yes e) = e
    none_lost none o (no d) = absurd (none on_no_walk (lowest_member (lost net)) (inr (inl (refl, lowest_bad (lost_collects net o) d))))

-- a net of which the check says no refusal passes
pub said_passes : (net : Net) → (check_says net).ok ≡ true → Passes net
unfolding check_says
said_passes net e =
    let c₂ = (unless-passes (orderly net) disorderly _).0 e in
    clear_passes net c₂.0 ((passing_passes net _).0 c₂.1).0
