use Rattle.std.proofs.Common.{◌≡◌, ◌++◌, length}
use Rattle.net_theory.specs.Naming.{node_name}
use Rattle.blif_core.specs.Written.{output_tables}
use Rattle.blif_core.proofs.written.push_outputs.Given as goal

abbrev pub invariant-loop-output : goal.invariant-loop-output
invariant-loop-output l = l.tables.items ++ output_tables (node_name l.circuit) l.done.keys l.left l.left_sinks ≡
    l.initial.tables.items ++ output_tables (node_name l.circuit) l.initial.done.keys l.outputs l.sinks

abbrev pub decreases-loop-output : goal.decreases-loop-output
decreases-loop-output l = length l.left
