use Rattle.std.proofs.Common.{◌≡◌, ◌++◌, length}
use Rattle.std.specs.List.{flat_map}
use Rattle.net_theory.specs.Document.{table_inputs}
use Rattle.match_core.proofs.arranging.push_table_inputs.Given as goal

abbrev pub invariant-loop-table : goal.invariant-loop-table
invariant-loop-table l = l.names.items ++ flat_map table_inputs l.left ≡ l.initial.names.items ++ flat_map table_inputs l.tables

abbrev pub decreases-loop-table : goal.decreases-loop-table
decreases-loop-table l = length l.left
