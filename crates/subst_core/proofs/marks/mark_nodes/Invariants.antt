use Rattle.std.proofs.Common.{◌≡◌, length}
use Rattle.net_core.specs.Marks.{set_of}
use Rattle.subst_core.specs.Lists.{AllBelow}
use Rattle.subst_core.specs.Placing.{with_nodes}
use Rattle.subst_core.proofs.marks.mark_nodes.Given as goal

abbrev pub invariant-loop-node : goal.invariant-loop-node
invariant-loop-node l = record {
  marks : with_nodes (set_of l.marks) l.left ≡ with_nodes (set_of l.initial.marks) l.nodes;
  below : AllBelow (length l.marks) l.left;
}

abbrev pub decreases-loop-node : goal.decreases-loop-node
decreases-loop-node l = length l.left
