use Rattle.std.proofs.Common.{length}
use Rattle.observe_core.specs.Putting.{HasPut}
use Rattle.observe_core.proofs.with_constants.put_fanout_cone.Given as goal

abbrev pub invariant-loop-node : goal.invariant-loop-node
invariant-loop-node l = HasPut l.net l.outputs l.bits l.fanout_cone l.left l.initial.gates.items l.gates.items

abbrev pub decreases-loop-node : goal.decreases-loop-node
decreases-loop-node l = length l.left
