use Rattle.std.proofs.Common.{length}
use Rattle.window_theory.specs.Window.{IsReadBy}
use Rattle.observe_core.specs.Kept.{AreFiltered}
use Rattle.observe_core.proofs.fanout_cones.nodes_read.Given as goal

abbrev pub invariant-loop-node : goal.invariant-loop-node
invariant-loop-node l = AreFiltered (IsReadBy l.net l.gates) l.nodes l.left l.kept.items

abbrev pub decreases-loop-node : goal.decreases-loop-node
decreases-loop-node l = length l.left
