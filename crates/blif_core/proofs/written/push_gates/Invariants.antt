use Rattle.std.proofs.Common.{◌≡◌, ◌++◌, length}
use Rattle.net_theory.specs.Naming.{node_name}
use Rattle.blif_core.specs.Written.{gate_tables}
use Rattle.blif_core.proofs.written.push_gates.Given as goal

abbrev pub invariant-loop-gate : goal.invariant-loop-gate
invariant-loop-gate l = l.tables.items ++ gate_tables (node_name l.circuit) l.left l.left_names ≡ l.initial.tables.items ++ gate_tables (node_name l.circuit) l.gates l.outputs

abbrev pub decreases-loop-gate : goal.decreases-loop-gate
decreases-loop-gate l = length l.left
