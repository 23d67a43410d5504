-- The list has the representatives of the nodes below `node`.
use Rattle.merge_core.specs.Representatives.{HaveRepresentatives}
use Rattle.merge_core.proofs.representatives.all_representatives.Given as goal

abbrev pub invariant-loop-node : goal.invariant-loop-node
invariant-loop-node l = HaveRepresentatives l.lanes l.width l.node l.representatives.items
