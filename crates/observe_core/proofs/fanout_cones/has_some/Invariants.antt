use Rattle.std.proofs.Common.{length}
use Rattle.observe_core.specs.Kept.{IsSomeLeft}
use Rattle.observe_core.proofs.fanout_cones.has_some.Given as goal

abbrev pub invariant-loop-node : goal.invariant-loop-node
invariant-loop-node l = IsSomeLeft l.gates l.nodes l.left

abbrev pub decreases-loop-node : goal.decreases-loop-node
decreases-loop-node l = length l.left
