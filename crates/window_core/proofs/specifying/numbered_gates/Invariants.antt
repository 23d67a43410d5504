use Rattle.std.proofs.Common.{length}
use Rattle.window_core.specs.Masking.{AreNumbered}
use Rattle.window_core.proofs.specifying.numbered_gates.Given as goal

abbrev pub invariant-loop-node : goal.invariant-loop-node
invariant-loop-node l = AreNumbered l.net l.nodes l.left l.gates.items

abbrev pub decreases-loop-node : goal.decreases-loop-node
decreases-loop-node l = length l.left
