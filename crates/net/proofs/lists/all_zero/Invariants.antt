use Rattle.std.proofs.Common.{◌≡◌, ◌&&◌, eqb, drop}
use Rattle.net.specs.Lists.{zeros}
use Rattle.net.proofs.lists.all_zero.Given as goal

abbrev pub invariant-loop-m : goal.invariant-loop-m
invariant-loop-m l = zeros l.list ≡ (eqb l.bits 0 && zeros (drop l.m-index l.list))
