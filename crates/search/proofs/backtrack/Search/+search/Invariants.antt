use Rattle.std.proofs.Common.{◌-◌, ◌*◌, ◌≤◌, length, drop}
use Rattle.net.specs.Limits.{sets}
use Rattle.search.specs.Search.{later}
use Rattle.search.specs.Backtrack.{search_lent, search_taken}
use Rattle.search.proofs.SearchLaws.{inputs_left, outputs_left}
use Rattle.search.proofs.Turns.{Going}
use Rattle.search.proofs.backtrack.Search.+search.Given as goal

-- twice what is left of the trace
abbrev pub decreases-inputs : goal.decreases-inputs
decreases-inputs l = 2 * (length l.self.now.trace.now - l.at)

-- and one less where an input set has been taken
abbrev pub decreases-outputs : goal.decreases-outputs
decreases-outputs l = 2 * (length l.self.now.trace.now - l.at) - 1

-- the trials so far, and then the input sets that are left, make the whole search
abbrev pub invariant-inputs-loop-count : goal.invariant-inputs-loop-count
invariant-inputs-loop-count l = record {
  few : length l.rest ≤ sets;
  going : Going l.self.budget (later l.trials (search_lent l.self.net.now l.self.trace.now l.at l.fn.due)) (inputs_left l.self.net.now l.self.trace.now l.at l.fn.due l.rest) l.fn.due l.due l.fn.out l.out l.count;
}

abbrev pub decreases-inputs-loop-count : goal.decreases-inputs-loop-count
decreases-inputs-loop-count l = length l.rest

-- the trials so far, and then the output sets that are left, make the whole search
abbrev pub invariant-outputs-loop-y : goal.invariant-outputs-loop-y
invariant-outputs-loop-y l =
    Going l.self.budget (later l.trials (search_taken l.self.net.now l.self.trace.now l.at l.x l.fn.due)) (outputs_left l.self.net.now l.self.trace.now l.at l.fn.due l.x (drop l.y-index l.sets)) l.fn.due l.due l.fn.out l.out l.count
