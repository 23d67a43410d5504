-- The gates below `node` are over the basis, and the others remain.
use Rattle.std.proofs.Common.{◌≡◌, ◌≤◌, ◌<◌, ◌+◌, ◌^◌, length, vec_len}
use Rattle.op_basis.specs.Basis.{members}
use Rattle.net_theory.specs.Net.{end_of}
use Rattle.net_theory.specs.Limits.{default_gates}
use Rattle.net_core.specs.Marks.{kept}
use Rattle.net_basis.specs.OverBasis.{most_over}
use Rattle.net_basis.specs.Placing.{IsConverted, AreLeft}
use Rattle.net_basis.specs.Conversion.{lengths_by}
use Rattle.net_basis.proofs.converting.pass.Given as goal

abbrev pub invariant-loop-gate : goal.invariant-loop-gate
invariant-loop-gate l = record {
  converted : IsConverted (members l.basis) l.net l.node (kept l.nodes l.gates.items);
  left : AreLeft l.net l.node l.left;
  nodes : length l.nodes ≡ end_of l.net;
  few : vec_len l.gates ≤ default_gates;
  room : l.net.sources + vec_len l.gates < 2 ^ 31;
  fewer : vec_len l.gates + most_over (lengths_by (members l.basis) l.recipes) l.left ≤
      most_over (lengths_by (members l.basis) l.recipes) l.net.gates;
}

abbrev pub decreases-loop-gate : goal.decreases-loop-gate
decreases-loop-gate l = length l.left
