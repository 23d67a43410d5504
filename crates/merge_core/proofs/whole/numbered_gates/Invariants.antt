-- The list so far, followed by the remaining gates with their nodes, has all gates.
use Rattle.std.proofs.Common.{◌≡◌, ◌+◌, ◌++◌, length}
use Rattle.net_theory.specs.Net.{end_of}
use Rattle.merge_core.specs.Whole.{numbered_from}
use Rattle.merge_core.proofs.whole.numbered_gates.Given as goal

abbrev pub invariant-loop-gate : goal.invariant-loop-gate
invariant-loop-gate l = record {
  numbered : l.numbered.items ++ numbered_from l.node l.left ≡ numbered_from (l.net.sources + 1) l.net.gates;
  all : l.node + length l.left ≡ end_of l.net;
}

abbrev pub decreases-loop-gate : goal.decreases-loop-gate
decreases-loop-gate l = length l.left
