-- The gates below `node` are merged, and the others remain.
use Rattle.std.proofs.Common.{◌≡◌, length}
use Rattle.net_theory.specs.Net.{end_of}
use Rattle.net_core.specs.Marks.{kept}
use Rattle.merge_core.specs.Merging.{AreKeys, AreLeft, IsMerged}
use Rattle.merge_core.proofs.merging.merge_gates.Given as goal

abbrev pub invariant-loop-gate : goal.invariant-loop-gate
invariant-loop-gate l = record {
  merged : IsMerged l.net l.node (kept l.nodes l.gates.items);
  keys : AreKeys l.keys.keys l.gates.items;
  left : AreLeft l.net l.node l.left;
  nodes : length l.nodes ≡ end_of l.net;
}

abbrev pub decreases-loop-gate : goal.decreases-loop-gate
decreases-loop-gate l = length l.left
