use Rattle.std.proofs.Common.{length}
use Rattle.window_core.specs.Ends.{AreFound}
use Rattle.window_core.proofs.window_inputs.all_inputs.Given as goal

abbrev pub invariant-loop-node : goal.invariant-loop-node
invariant-loop-node l = AreFound l.net l.gates l.left l.inputs.items

abbrev pub decreases-loop-node : goal.decreases-loop-node
decreases-loop-node l = length l.left
