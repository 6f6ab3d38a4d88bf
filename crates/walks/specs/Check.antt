-- What the net check says (01, "Net check and judge"; 02, (iv); refusals 2, 6 and 19).
use Rattle.std.specs.Prelude.{ℕ, ◌<◌, Bool, not, ◌&&◌, ◌||◌, List, [], ◌∷◌, eqb, get_or, Result}
use Rattle.obligations.specs.Limits.{activities}
use Rattle.obligations.specs.Sets.{member, members}
use Rattle.net.specs.Refusals.{Says, means, accepted, disorderly, on_no_walk, name_unanswered}
use Rattle.net.specs.Sentences.{Sentence, lowest}
use Rattle.net.specs.Chains.{unless, unless_at}
use Rattle.net.specs.Sides.{lengths_of, opposite}
use Rattle.net.specs.Orderly.{orderly}
use Rattle.net.specs.Common.{not_orderly}
use Rattle.net.specs.declared.Net.{Net}
use Rattle.net.specs.declared.refusal.Refused.{Refused}
use Rattle.net.specs.declared.sides.Side.{Side}
use Rattle.net.specs.declared.sides.Side.TheVariants.{Input, Output}
use Rattle.walks.specs.Below.{any_below, those}
use Rattle.walks.specs.Arcs.{Names, names, arc, arcs}
use Rattle.walks.specs.Walk.{InNet, OnWalk}
use Rattle.walks.specs.Rows.{rows, reach}

-- what each answer means: an accepted check's value is the number of arcs
abbrev pub check_means : Result ℕ Refused → Says
check_means answer = means (λ arcs. arcs) answer

-- ---- the refusals

-- 6: an activity is on no walk from start to end; the lowest is returned
abbrev pub Lost : Net → ℕ → Type 0
Lost net a = InNet net a × (OnWalk net a → ⊥)

abbrev pub activity_on_no_walk : Net → Sentence
activity_on_no_walk net = lowest on_no_walk (Lost net)

-- 19: a set of a names an activity whose opposite side never names a back; the lowest such a is returned
pub record Unanswered (net : Net) (a : ℕ) : Type 0 where
  pub side : Side
  pub named_one : ℕ
  pub an_activity : named_one < activities
  pub names_it : Names net side a named_one
  pub never_back : Names net (opposite side) named_one a → ⊥

abbrev pub unanswered_name : Net → Sentence
unanswered_name net = lowest name_unanswered (Unanswered net)

abbrev pub check_refusals : Net → List Sentence
check_refusals net = not_orderly net ∷ activity_on_no_walk net ∷ unanswered_name net ∷ []

-- ---- what is said

-- a has a set on its side, or is named in a set on some activity's
unfoldable pub on_sides : Net → Side → ℕ → Bool
on_sides net side a = not (eqb (get_or (lengths_of net side) a 0) 0) || any_below activities (λ b. names net side b a)

-- a is one of the net's activities
unfoldable pub in_net : Net → ℕ → Bool
in_net net a = (eqb net.start a || eqb net.end a) || (on_sides net Input a || on_sides net Output a)

-- for each activity the set of those one arc on from it, and of those one arc back
unfoldable pub successors : Net → List ℕ
successors net = rows (λ p. those (λ q. arc net p q))

unfoldable pub predecessors : Net → List ℕ
predecessors net = rows (λ q. those (λ p. arc net p q))

-- the net's activities outside one of two sets
unfoldable pub outside : Net → ℕ → ℕ → ℕ
outside net from to = those (λ a. in_net net a && not (member from a && member to a))

-- the net's activities that are on no walk from start to end
unfoldable pub lost : Net → ℕ
lost net = outside net (reach (successors net) net.start) (reach (predecessors net) net.end)

-- a names an activity on its side of this kind, and that one's opposite side never names a back
unfoldable pub unanswered_on : Net → Side → ℕ → Bool
unanswered_on net side a = any_below activities (λ k. names net side a k && not (names net (opposite side) k a))

-- the activities that name one which never names them back
unfoldable pub unanswered : Net → ℕ
unanswered net = those (λ a. unanswered_on net Input a || unanswered_on net Output a)

-- the lowest member of a set
unfoldable pub lowest_member : ℕ → ℕ
lowest_member m = get_or (members m) 0 0

-- the rest of a chain if the set has no member, else the refusal n with its lowest
abbrev pub none_in : ℕ → ℕ → Says → Says
none_in m n rest = unless_at (eqb m 0) n (lowest_member m) rest

-- the rest of a chain if neither has a member, else refusal 6 with the lowest lost activity, or 19 with the lowest unanswered one
abbrev pub surveyed : ℕ → ℕ → Says → Says
surveyed lost_ones unanswered_ones rest = none_in lost_ones on_no_walk (none_in unanswered_ones name_unanswered rest)

-- the rest of a chain if an orderly net passes
abbrev pub passing : Net → Says → Says
passing net rest = surveyed (lost net) (unanswered net) rest

-- what the check says of an orderly net, and of any
abbrev pub pass_says : Net → Says
pass_says net = passing net (accepted (arcs net))

unfoldable pub check_says : Net → Says
check_says net = unless (orderly net) disorderly (pass_says net)
