use Rattle.std.proofs.Common.{◌≡◌, ◌++◌, length}
use Rattle.lane_sim.proofs.above.note.Given as goal

abbrev pub invariant-loop-node : goal.invariant-loop-node
invariant-loop-node l = l.nodes.keys ++ l.left ≡ l.initial.nodes.keys ++ l.more

abbrev pub decreases-loop-node : goal.decreases-loop-node
decreases-loop-node l = length l.left
