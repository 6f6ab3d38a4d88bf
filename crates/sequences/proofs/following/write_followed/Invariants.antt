use Rattle.std.proofs.Common.{◌≡◌, ◌*◌, drop}
use Rattle.std.proofs.lemmas.List.Edits.{sets}
use Rattle.obligations.specs.Sequence.{words}
use Rattle.sequences.specs.Follow.{followed_from, followed}
use Rattle.sequences.proofs.following.write_followed.Given as goal

abbrev pub invariant-loop-i : goal.invariant-loop-i
invariant-loop-i l = sets l.out (3 * l.i) (words (followed_from l.previous (drop l.i l.trace))) ≡ sets l.initial.out 0 (words (followed l.trace))
