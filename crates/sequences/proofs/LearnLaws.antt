-- Refusal 9, position by position, and the chain of learn's refusals up to 11. Assumes nothing.
use Prim.Native.Nat.{ℕ, ◌+◌, ◌<◌}
use mathlib.Core.Path.{◌≡◌, sym, ◌∙◌}
use mathlib.Core.Bool.{true, false, ◌&&◌, beq, and-false}
use mathlib.Core.List.{List, [], ◌∷◌}
use native.Mathlib.Numerals.{add-one}
use native.Mathlib.Omega.{arith}
use native.Mathlib.Decide.{ℕ_discrete as dec_eq}
use borrow.Author.Tests.{eq-eqb, ne_eqb}
use lib.Dec.{eqb}
use lib.ListN.{length, drop}
use Rattle.std.proofs.Common.{Some, None, refl}
use Rattle.obligations.specs.Tests.{position_of}
use Rattle.obligations.specs.Trace.{shaped}
use Rattle.obligations.specs.Sequence.{at}
use Rattle.obligations.specs.declared.sequence.Binding.{Binding}
use Rattle.obligations.proofs.BoolLaws.{and_both}
use Rattle.obligations.proofs.ListLaws.{drop_head, drop_end}
use Rattle.obligations.proofs.PositionLaws.{AllPass, pass_first, fails_first, position_none, position_some, none_position, some_position}
use Rattle.obligations.proofs.TraceLaws.{pass_more}
use Rattle.net.specs.Refusals.{accepted, refused}
use Rattle.net.specs.declared.Net.{Net}
use Rattle.sequences.specs.Judge.{run_says}
use Rattle.sequences.specs.Learn.{empty_agree, first_wrongly_empty, gain_says, learn_positions}
use Rattle.sequences.proofs.RunLaws.{ran_accepted, ran_refused}

-- ---- refusal 9

-- the loop has passed i positions, where `rest` is left of them, and at each the sets are empty and filled as they have to be
pub record Agreeing (s : List Binding) (i : ℕ) (rest : List Binding) : Type 0 where
  pub left : drop i s ≡ rest
  pub agree : AllPass i (empty_agree s)

pub agreeing_start : (s rest : List Binding) → s ≡ rest → Agreeing s 0 rest
agreeing_start s rest e = record { left = e; agree = λ j l. absurd (omega (l, arith)) }

module _ (s : List Binding) (i : ℕ) (rest : List Binding) (r : Agreeing s i rest) where
  pub agreeing_end : rest ≡ [] → position_of (first_wrongly_empty s) ≡ None
  unfolding first_wrongly_empty
  agreeing_end e = position_none (pass_first (length s) (empty_agree s) (λ j l. r.agree j (omega (arith, drop_end s i (r.left ∙ e)))))

  module _ (b : Binding) (rest' : List Binding) (e : rest ≡ b ∷ rest') where
    pub agreeing_inside : i < length s
    agreeing_inside = (drop_head s i b rest' b (r.left ∙ e)).0

    test : empty_agree s i ≡ beq (eqb b.input 0) (eqb i 0) && beq (eqb b.output 0) (eqb (i + 1) (length s))
    unfolding empty_agree
    test = rw (drop_head s i b rest' (record { activity = 0; input = 0; output = 0 }) (r.left ∙ e)).1

    wrong_here : empty_agree s i ≡ false → position_of (first_wrongly_empty s) ≡ Some (i + 1)
    unfolding first_wrongly_empty
    wrong_here f = rw add-one (position_some (fails_first (length s) (empty_agree s) i (record { inside = agreeing_inside; before = r.agree; fails = f })))

    -- the code counts positions from 1
    module _ (position : ℕ) (p : position ≡ i + 1) where
      first_same : eqb position 1 ≡ eqb i 0
      first_same = elim (dec_eq i 0) [
        | yes q ↦ rw (eq-eqb position 1 (omega (arith, p, q)), eq-eqb i 0 q)
        | no d ↦ rw (ne_eqb position 1 (λ q. d (omega (arith, p, q))), ne_eqb i 0 d)
      ]

      pub input_wrong : beq (eqb b.input 0) (eqb position 1) ≡ false → position_of (first_wrongly_empty s) ≡ Some position
      input_wrong f = rw p (wrong_here (rw (test, rw first_same at f)))

      -- the code tells the last position by how many there are
      module _ (n : ℕ) (w : n ≡ length s) where
        last_same : eqb position n ≡ eqb (i + 1) (length s)
        last_same = rw (p, w) refl

        pub output_wrong : beq (eqb b.output 0) (eqb position n) ≡ false → position_of (first_wrongly_empty s) ≡ Some position
        output_wrong f = rw p (wrong_here (test ∙ simp (rw last_same at f, and-false)))

        pub agreeing_next : beq (eqb b.input 0) (eqb position 1) ≡ true → beq (eqb b.output 0) (eqb position n) ≡ true → Agreeing s (i + 1) rest'
        agreeing_next x y = record {
          left = (drop_head s i b rest' b (r.left ∙ e)).2;
          agree = pass_more (empty_agree s) i r.agree (test ∙ and_both (rw first_same at x) (rw last_same at y));
        }

-- ---- the chain from refusal 7 on

module _ (net : Net) (s : List Binding) where
  pub learn_ends : shaped net.start net.end (length s) (λ i. (at s i).activity) ≡ false → refused 7 0 ≡ learn_positions net s
  unfolding learn_positions
  learn_ends f = rw f

  module _ (h : shaped net.start net.end (length s) (λ i. (at s i).activity) ≡ true) where
    pub learn_empty : (place : ℕ) → position_of (first_wrongly_empty s) ≡ Some place → refused 9 place ≡ learn_positions net s
    unfolding learn_positions
    learn_empty place e = let p = some_position _ place e in rw (h, p.0, ne_eqb place 0 (λ z. omega (arith, p.1)))

    module _ (e : position_of (first_wrongly_empty s) ≡ None) where
      pub learn_run : (n p : ℕ) → refused n p ≡ run_says s → refused n p ≡ learn_positions net s
      unfolding learn_positions
      learn_run n p q = rw (h, none_position _ e) (ran_refused s (gain_says net s) n p q)

      pub learn_gains : (peak : ℕ) → accepted peak ≡ run_says s → gain_says net s ≡ learn_positions net s
      unfolding learn_positions
      learn_gains peak q = rw (h, none_position _ e) (sym (ran_accepted s (gain_says net s) peak q))
