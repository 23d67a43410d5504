use Rattle.std.proofs.Common.{◌≡◌, ◌+◌, length}
use Rattle.net_theory.specs.Net.{bit_of, values_after, values_of}
use Rattle.net_core.specs.Marks.{AreAt}
use Rattle.net_core.proofs.evaluation.gates_into.Given as goal

abbrev pub invariant-loop-gate : goal.invariant-loop-gate
invariant-loop-gate l = record {
  room : l.node + length l.left ≡ length l.nodes;
  stand : AreAt (l.node + 1) l.left;
  same : values_after (bit_of l.nodes) (l.node + 1) l.left ≡ values_of (bit_of l.initial.nodes) l.sources l.gates;
}

abbrev pub decreases-loop-gate : goal.decreases-loop-gate
decreases-loop-gate l = length l.left
