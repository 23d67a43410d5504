use Rattle.std.proofs.Common.{◌≡◌}
use Rattle.xag_core.proofs.traversal.traverse_gates.Given as goal

abbrev pub invariant-loop-node : goal.invariant-loop-node
invariant-loop-node l = l.traversal.builder.sources ≡ l.initial.traversal.builder.sources
