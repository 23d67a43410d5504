use Rattle.std.proofs.Common.{length}
use Rattle.observe_core.specs.Observing.{ArePutTogether}
use Rattle.observe_core.proofs.observing.first_leaves.Given as goal

abbrev pub invariant-loop-node : goal.invariant-loop-node
invariant-loop-node l = ArePutTogether l.inputs l.side_inputs l.left l.first.items

abbrev pub decreases-loop-node : goal.decreases-loop-node
decreases-loop-node l = length l.left
