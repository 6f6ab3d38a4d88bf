-- What is proved of the net check (01, "Net check and judge"; 02, (iv)): the definitions that compute say what the papers' sentences
-- say.
use Rattle.std.specs.Prelude.{ℕ, ◌<◌, ◌≡◌, ◌↔◌, true}
use Rattle.obligations.specs.Limits.{activities}
use Rattle.net.specs.Refusals.{accepted, refused, name_unanswered}
use Rattle.net.specs.Sentences.{Lowest, NoneHolds, AsListed}
use Rattle.net.specs.Sides.{SameButCounts}
use Rattle.net.specs.Orderly.{Orderly}
use Rattle.net.specs.Contained.{Contained}
use Rattle.net.specs.declared.Net.{Net}
use Rattle.net.specs.declared.sides.Side.TheVariants.{Input, Output}
use Rattle.walks.specs.Arcs.{Names, Arc, arc, arcs}
use Rattle.walks.specs.Walk.{Walk, InNet, OnWalk, Passes}
use Rattle.walks.specs.Check.{Unanswered, check_refusals, check_says}

-- the test of an arc is the paper's
abbrev pub ArcTestRight : Type 0
ArcTestRight = (net : Net) (p q : ℕ) → (arc net p q ≡ true) ↔ Arc net p q

-- the check is refused exactly as its sentences are listed: 2 of a record that isn't orderly, else 6 with the lowest activity that
-- is on no walk, else 19 with the lowest that names one which never names it back
abbrev pub CheckListed : Type 0
CheckListed = (net : Net) → AsListed refused (check_refusals net) (check_says net)

-- 19 is said with a exactly if the net is orderly, all its activities are on walks, and a is the lowest that names one which never
-- names it back
abbrev pub UnansweredExactly : Type 0
UnansweredExactly =
    (net : Net) (a : ℕ)
    → (check_says net ≡ refused name_unanswered a) ↔ (Orderly net × ((b : ℕ) → InNet net b → OnWalk net b) × Lowest (Unanswered net) a)

-- no refusal holds exactly if the net passes, and then the number of arcs is said
abbrev pub NoneHoldsPasses : Type 0
NoneHoldsPasses = (net : Net) → NoneHolds (check_refusals net) ↔ Passes net

abbrev pub PassingAccepted : Type 0
PassingAccepted = (net : Net) (n : ℕ) → (check_says net ≡ accepted n) ↔ (Passes net × (n ≡ arcs net))

-- the arcs of a net that passes are read from its input sets as from its output sets (003, Definition 1)
abbrev pub ArcsOnEitherSide : Type 0
ArcsOnEitherSide = (net : Net) → Passes net → (p q : ℕ) → p < activities → q < activities → (Arc net p q ↔ Names net Input q p) × (Arc net p q ↔ Names net Output p q)

-- the check passes over the counts of orderly records (02, (viii))
abbrev pub CheckPassesOver : Type 0
CheckPassesOver = (net other : Net) → Orderly net → Orderly other → SameButCounts net other → check_says net ≡ check_says other

-- arcs and walks of a net are arcs and walks of each net that it is contained in
abbrev pub WalksGrow : Type 0
WalksGrow = (net other : Net) → Orderly net → Contained net other → (a b : ℕ) → (Arc net a b → Arc other a b) × (Walk net a b → Walk other a b)
