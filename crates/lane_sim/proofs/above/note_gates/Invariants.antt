use Rattle.std.proofs.Common.{◌≡◌, ◌++◌, length, map}
use Rattle.lane_sim.specs.Cone.{node_of}
use Rattle.lane_sim.proofs.above.note_gates.Given as goal

abbrev pub invariant-loop-first : goal.invariant-loop-first
invariant-loop-first l = l.nodes.keys ++ map node_of l.left ≡ l.initial.nodes.keys ++ map node_of l.gates

abbrev pub decreases-loop-first : goal.decreases-loop-first
decreases-loop-first l = length l.left
