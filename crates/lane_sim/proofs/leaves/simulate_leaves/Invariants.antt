use Rattle.std.proofs.Common.{length}
use Rattle.lane_sim.specs.Rows.{AreLeaves}
use Rattle.lane_sim.proofs.leaves.simulate_leaves.Given as goal

abbrev pub invariant-loop-node : goal.invariant-loop-node
invariant-loop-node l = AreLeaves l.fn.cone l.width l.nodes.keys l.lanes.items l.left

abbrev pub decreases-loop-node : goal.decreases-loop-node
decreases-loop-node l = length l.left
