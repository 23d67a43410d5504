use Rattle.std.proofs.Common.{◌*◌, length}
use Rattle.lane_sim.specs.Rows.{AreGatesOf}
use Rattle.lane_sim.proofs.simulation.simulate_gates.Given as goal

abbrev pub invariant-loop-first : goal.invariant-loop-first
invariant-loop-first l = AreGatesOf l.fn.cone l.width (64 * l.width) l.nodes.keys l.lanes.items l.left

abbrev pub decreases-loop-first : goal.decreases-loop-first
decreases-loop-first l = length l.left
