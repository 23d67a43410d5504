use Rattle.std.proofs.Common.{◌≡◌, length}
use Rattle.graph_core.specs.Cycles.{added}
use Rattle.graph_core.proofs.cycles.add_all.Given as goal

abbrev pub invariant-loop-node : goal.invariant-loop-node
invariant-loop-node l = added l.set.keys l.left ≡ added l.initial.set.keys l.nodes

abbrev pub decreases-loop-node : goal.decreases-loop-node
decreases-loop-node l = length l.left
