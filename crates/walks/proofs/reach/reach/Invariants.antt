use Prim.Native.Nat.{◌-◌, ◌^◌}
use Rattle.walks.proofs.ReachLaws.{Search}
use Rattle.walks.proofs.reach.reach.Given as goal

abbrev pub invariant-loop-done : goal.invariant-loop-done
invariant-loop-done l = Search l.next l.from l.seen l.done

abbrev pub decreases-loop-done : goal.decreases-loop-done
decreases-loop-done l = 2 ^ 32 - l.done
