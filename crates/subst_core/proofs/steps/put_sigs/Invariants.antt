use Rattle.std.proofs.Common.{◌≡◌, ◌≤◌, length}
use Rattle.window_theory.specs.Substituted.{with_sigs}
use Rattle.net_core.specs.Marks.{nodes_of}
use Rattle.subst_core.specs.Lists.{AllBelow}
use Rattle.subst_core.proofs.steps.put_sigs.Given as goal

abbrev pub invariant-loop-node : goal.invariant-loop-node
invariant-loop-node l = record {
  nodes : with_sigs (nodes_of l.nodes) l.left l.sigs ≡ with_sigs (nodes_of l.initial.nodes) l.outputs l.sigs;
  below : AllBelow (length l.nodes) l.left;
  few : length l.left ≤ length l.sigs;
}

abbrev pub decreases-loop-node : goal.decreases-loop-node
decreases-loop-node l = length l.left
