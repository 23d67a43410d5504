use Rattle.std.proofs.Common.{◌≡◌, ◌+◌, ◌≤◌, length}
use Rattle.aiger_core.specs.Written.{mapped, mapped_from}
use Rattle.aiger_write.proofs.gates.mapped_net.Given as goal

abbrev pub invariant-loop-gate : goal.invariant-loop-gate
invariant-loop-gate l = record {
  same : mapped_from l.sources l.mapped l.left ≡ mapped l.net;
  few : length l.mapped.gates + length l.left ≤ length l.net.gates;
}

abbrev pub decreases-loop-gate : goal.decreases-loop-gate
decreases-loop-gate l = length l.left
