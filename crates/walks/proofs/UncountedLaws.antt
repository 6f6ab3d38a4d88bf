-- The check passes over counts: each of its definitions reads the sides alone, and says the same of a net with counts 0 in place
-- of its own. Assumes nothing.
use mathlib.Core.Path.{◌≡◌, refl}
use mathlib.Core.Bool.{true}
use Rattle.net.specs.Refusals.{Says}
use Rattle.net.specs.Sides.{uncounted}
use Rattle.net.specs.Orderly.{orderly}
use Rattle.net.specs.declared.Net.{Net}
use Rattle.net.proofs.UncountedLaws.{uncounted-orderly}
use Rattle.walks.specs.Arcs.{names, arc, arcs}
use Rattle.walks.specs.Check.{on_sides, in_net, successors, predecessors, outside, lost, unanswered_on, unanswered, passing, pass_says, check_says}

lost-uncounted : (net : Net) → lost (uncounted net) ≡ lost net
unfolding lost outside in_net on_sides successors predecessors arc names
lost-uncounted net = refl

unanswered-uncounted : (net : Net) → unanswered (uncounted net) ≡ unanswered net
unfolding unanswered unanswered_on names
unanswered-uncounted net = refl

arcs-uncounted : (net : Net) → arcs (uncounted net) ≡ arcs net
unfolding arcs arc names
arcs-uncounted net = refl

pub passing-uncounted : (net : Net) (rest : Says) → passing (uncounted net) rest ≡ passing net rest
passing-uncounted net rest = rw (lost-uncounted net, unanswered-uncounted net)

pub pass_says-uncounted : (net : Net) → pass_says (uncounted net) ≡ pass_says net
pass_says-uncounted net = rw (lost-uncounted net, unanswered-uncounted net, arcs-uncounted net)

pub check_says-uncounted : (net : Net) → orderly net ≡ true → check_says (uncounted net) ≡ check_says net
unfolding check_says
check_says-uncounted net o = rw (uncounted-orderly net o, o) (pass_says-uncounted net)
