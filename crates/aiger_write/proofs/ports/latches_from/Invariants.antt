use Rattle.std.proofs.Common.{◌≡◌, ◌+◌, ◌++◌, length}
use Rattle.aiger_core.specs.Written.{latches_from}
use Rattle.aiger_write.proofs.ports.latches_from.Given as goal

abbrev pub invariant-loop-latch : goal.invariant-loop-latch
invariant-loop-latch l = record {
  same : l.lines.items ++ latches_from l.node l.left l.states ≡ latches_from l.first l.latches l.nexts;
  room : l.node + length l.left ≡ l.first + length l.latches;
}

abbrev pub decreases-loop-latch : goal.decreases-loop-latch
decreases-loop-latch l = length l.left
