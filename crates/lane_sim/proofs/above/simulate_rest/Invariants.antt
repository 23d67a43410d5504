use Rattle.std.proofs.Common.{length}
use Rattle.lane_sim.specs.Above.{with_gates, AreDone}
use Rattle.lane_sim.proofs.above.simulate_rest.Given as goal

abbrev pub invariant-loop-first : goal.invariant-loop-first
invariant-loop-first l = AreDone (with_gates l.fn.cone l.fn.above) l.width l.lanes.items l.left

abbrev pub decreases-loop-first : goal.decreases-loop-first
decreases-loop-first l = length l.left
