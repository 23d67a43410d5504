use Rattle.std.proofs.Common.{◌≡◌, ◌≤◌, length}
use Rattle.observe_core.specs.Putting.{put_node}
use Rattle.observe_core.proofs.with_constants.put_node.Given as goal

abbrev pub invariant-loop-output : goal.invariant-loop-output
invariant-loop-output l = (put_node l.left l.bits l.node ≡ put_node l.outputs l.bits l.node) × (length l.left ≤ 8)

abbrev pub decreases-loop-output : goal.decreases-loop-output
decreases-loop-output l = length l.left
