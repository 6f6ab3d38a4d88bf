-- A net grown from a fresh one by sequences, at least one, passes (000, Theorem 1; 02, (iv)): each of its activities occurs in one
-- of them and each of its names is one of theirs, since what else it holds is the two empty sets. Assumes nothing.
use Prim.Native.Nat.{ℕ, ◌<◌}
use mathlib.Core.Path.{◌≡◌, sym, ap, subst, ◌∙◌}
use mathlib.Core.Bool.{true}
use mathlib.Core.List.{List, Memᴰ}
use lib.ListN.{length}
use mathlib.Core.Logic.{◌⊎◌, inl, inr}
use Rattle.obligations.specs.Sets.{member}
use Rattle.obligations.specs.Sequence.{at}
use Rattle.obligations.specs.declared.sequence.Binding.{Binding}
use Rattle.obligations.proofs.BoolLaws.{false-not-true}
use Rattle.obligations.proofs.SetLaws.{member_none}
use Rattle.net.specs.Sides.{empty_at, opposite, OnSide}
use Rattle.net.specs.Orderly.{ends_ok}
use Rattle.net.specs.Fresh.{fresh_net}
use Rattle.net.specs.Valid.{Valid}
use Rattle.net.specs.declared.Net.{Net}
use Rattle.net.specs.declared.sides.Side.{Side}
use Rattle.net.specs.declared.sides.Side.TheVariants.{Input, Output}
use Rattle.net.proofs.FreshLaws.{fresh_on_side}
use Rattle.net.proofs.WithinLaws.{same_empty}
use Rattle.walks.specs.Arcs.{Names}
use Rattle.walks.specs.Walk.{InNet, the_start, the_end, with_a_set, in_a_set, OnWalk, Passes}
use Rattle.sequences.specs.Gain.{set_for}
use Rattle.promises.proofs.ValidWalkLaws.{SetsAreMasks, Occurs, occurring_on_walk, named_occurs, named_answers, start_occurs, end_occurs}
use Rattle.promises.proofs.GrownLaws.{SetOfSome, Grown, grown_set, grown-valid}

-- k is named on activity a's side by a position of one of the sequences
record NamedBySome (ss : List (List Binding)) (side : Side) (a k : ℕ) : Type 0 where
  sequence : List Binding
  among : Memᴰ sequence ss
  position : ℕ
  inside : position < length sequence
  activity_is : (at sequence position).activity ≡ a
  in_set : member (set_for side (at sequence position)) k ≡ true

module _ (start end : ℕ) (h : ends_ok start end ≡ true) (after : Net) (ss : List (List Binding)) (g : Grown (fresh_net start end) after ss) (small : (s : List Binding) → Memᴰ s ss → SetsAreMasks s) where
  valid : (s : List Binding) → Memᴰ s ss → Valid after s
  valid s m = grown-valid (fresh_net start end) after ss g s m

  of_sequence : (a : ℕ) (s : List Binding) → Memᴰ s ss → Occurs s a → OnWalk after a
  of_sequence a s m o = occurring_on_walk after s (small s m) (valid s m) a o

  -- a side that holds the empty set is the start's or the end's
  at_an_end : (side : Side) (a : ℕ) → a ≡ empty_at after side → (s : List Binding) → Memᴰ s ss → OnWalk after a
  at_an_end Input a e s m = of_sequence a s m (rw e (start_occurs after s (small s m) (valid s m)))
  at_an_end Output a e s m = of_sequence a s m (rw e (end_occurs after s (small s m) (valid s m)))

  with_set_lem : (side : Side) (a m : ℕ) (s : List Binding) → Memᴰ s ss → OnSide (fresh_net start end) side a m ⊎ SetOfSome side ss a m → OnWalk after a
  with_set_lem side a m s k (inl i) = at_an_end side a (((fresh_on_side start end h side a m).0 i).0 ∙ same_empty (fresh_net start end) after side (sym g.gains.same_start) (sym g.gains.same_end)) s k
  with_set_lem side a m s k (inr f) = of_sequence a f.sequence f.among (record { position = f.set_of.position; inside = f.set_of.inside; activity_is = f.set_of.activity_is })

  -- ---- names

  in_set : (side : Side) (a k m : ℕ) → member m k ≡ true → OnSide (fresh_net start end) side a m ⊎ SetOfSome side ss a m → NamedBySome ss side a k
  in_set side a k m t (inl i) = absurd (false-not-true (ap (λ (n : ℕ). member n k) ((fresh_on_side start end h side a m).0 i).1 ∙ member_none k) t)
  in_set side a k m t (inr f) = record {
    sequence = f.sequence;
    among = f.among;
    position = f.set_of.position;
    inside = f.set_of.inside;
    activity_is = f.set_of.activity_is;
    in_set = subst (λ (n : ℕ). member n k ≡ true) (sym f.set_of.set_is) t;
  }

  named_by : (side : Side) (a k : ℕ) → Names after side a k → NamedBySome ss side a k
  named_by side a k n = in_set side a k n.set n.in_set (grown_set g side a n.set n.on_side)

  name_on_walk : (side : Side) (a k : ℕ) → Names after side a k → OnWalk after k
  name_on_walk side a k n =
      let w = named_by side a k n in
      let s = w.sequence in
      of_sequence k s w.among (named_occurs after s (small s w.among) (valid s w.among) side w.position k w.inside w.in_set)

  name_answered : (side : Side) (a k : ℕ) → Names after side a k → Names after (opposite side) k a
  name_answered side a k n =
      let w = named_by side a k n in
      let s = w.sequence in
      subst (Names after (opposite side) k) w.activity_is (named_answers after s (small s w.among) (valid s w.among) side w.position k w.inside w.in_set)

  -- ---- the net passes

  on_walk : (s : List Binding) → Memᴰ s ss → (a : ℕ) → InNet after a → OnWalk after a
  on_walk s k a (the_start e) = at_an_end Input a e s k
  on_walk s k a (the_end e) = at_an_end Output a e s k
  on_walk s k a (with_a_set side m i) = with_set_lem side a m s k (grown_set g side a m i)
  on_walk s k a (in_a_set side b l n) = name_on_walk side b a n

  pub grown_net_passes : (s : List Binding) → Memᴰ s ss → Passes after
  grown_net_passes s m = record {
    is_orderly = g.gains.is_orderly;
    on_walks = on_walk s m;
    answered = λ p q hp hq. (name_answered Input q p, name_answered Output p q);
  }
