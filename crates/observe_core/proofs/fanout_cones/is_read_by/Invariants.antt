use Rattle.std.proofs.Common.{length}
use Rattle.observe_core.specs.Kept.{IsReadLeft}
use Rattle.observe_core.proofs.fanout_cones.is_read_by.Given as goal

abbrev pub invariant-loop-gate : goal.invariant-loop-gate
invariant-loop-gate l = IsReadLeft l.net l.gates l.left l.node

abbrev pub decreases-loop-gate : goal.decreases-loop-gate
decreases-loop-gate l = length l.left
