use Rattle.std.proofs.Common.{◌≡◌, false, length}
use Rattle.window_theory.specs.Nodes.{among}
use Rattle.observe_core.specs.Kept.{AreFiltered}
use Rattle.observe_core.proofs.fanout_cones.nodes_outside.Given as goal

abbrev pub invariant-loop-node : goal.invariant-loop-node
invariant-loop-node l = AreFiltered (λ p. among l.gates p ≡ false) l.nodes l.left l.kept.items

abbrev pub decreases-loop-node : goal.decreases-loop-node
decreases-loop-node l = length l.left
