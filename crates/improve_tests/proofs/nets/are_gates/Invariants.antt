use Rattle.std.proofs.Common.{◌≤◌, length}
use Rattle.net_theory.specs.Net.{AreGates}
use Rattle.improve_tests.proofs.nets.are_gates.Given as goal

abbrev pub invariant-loop-gate : goal.invariant-loop-gate
invariant-loop-gate l = record {
  size : length l.left ≤ length l.gates;
  all : AreGates l.sources l.left → AreGates l.sources l.gates;
}

abbrev pub decreases-loop-gate : goal.decreases-loop-gate
decreases-loop-gate l = length l.left
