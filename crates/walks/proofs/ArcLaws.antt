-- The tests of names and arcs are the facts: a test over a list of sets passes exactly if one of them is as asked. Assumes nothing.
use Prim.Native.Nat.{ℕ}
use mathlib.Core.Path.{◌≡◌, refl, subst}
use mathlib.Core.Logic.{◌↔◌, ⊎_elim}
use mathlib.Core.Bool.{true}
use mathlib.Core.List.{List, [], ◌∷◌}
use Rattle.obligations.specs.Sets.{member}
use Rattle.obligations.proofs.BoolLaws.{false-not-true, and_left, and_right, and_both, or_left, or_right, or_cases}
use Rattle.net.specs.Lists.{listed}
use Rattle.net.specs.Sides.{sets_on}
use Rattle.net.specs.declared.Net.{Net}
use Rattle.net.specs.declared.sides.Side.{Side}
use Rattle.net.specs.declared.sides.Side.TheVariants.{Input, Output}
use Rattle.net.proofs.ListLaws.{none_listed, listed-first, listed-later, head_or_later}
use Rattle.walks.specs.Arcs.{Names, Arc, named, names, arc}

named-listed : (l : List ℕ) (k : ℕ) → named l k ≡ true → (m : ℕ) × (listed m l ≡ true) × (member m k ≡ true)
unfolding named
named-listed [] k e = absurd (false-not-true refl e)
named-listed (x ∷ xs) k e =
    ⊎_elim (λ h. (x, listed-first x xs, h)) (λ h. let w = named-listed xs k h in (w.0, listed-later w.0 x xs w.1, w.2))
    (or_cases (member x k) (named xs k) e)

listed-named : (l : List ℕ) (m k : ℕ) → listed m l ≡ true → member m k ≡ true → named l k ≡ true
unfolding named
listed-named [] m k h e = absurd (false-not-true (none_listed m) h)
listed-named (x ∷ xs) m k h e =
    ⊎_elim (λ t. or_right (member x k) (listed-named xs m k t e)) (λ q. or_left (named xs k) (subst (λ (s : ℕ). member s k ≡ true) q e))
    (head_or_later m x xs h)

pub names_facts : (net : Net) (side : Side) (a k : ℕ) → (names net side a k ≡ true) ↔ Names net side a k
unfolding names
names_facts net side a k = (
  (λ e. let w = named-listed (sets_on net side a) k e in record { set = w.0; on_side = w.1; in_set = w.2 }),
  (λ n. listed-named (sets_on net side a) n.set k n.on_side n.in_set),
)

pub arc_facts : (net : Net) (p q : ℕ) → (arc net p q ≡ true) ↔ Arc net p q
unfolding arc
arc_facts net p q = (
  (λ e. record { in_input = (names_facts net Input q p).0 (and_left (names net Input q p) (names net Output p q) e); in_output = (names_facts net Output p q).0 (and_right (names net Input q p) (names net Output p q) e) }),
  (λ a. and_both ((names_facts net Input q p).1 a.in_input) ((names_facts net Output p q).1 a.in_output)),
)
