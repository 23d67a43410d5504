use Rattle.std.proofs.Common.{◌≡◌, ◌++◌, length, map}
use Rattle.net_theory.specs.Document.{table_output}
use Rattle.aiger_text.proofs.listing.push_table_outputs.Given as goal

abbrev pub invariant-loop-table : goal.invariant-loop-table
invariant-loop-table l = l.names.items ++ map table_output l.left ≡ l.initial.names.items ++ map table_output l.tables

abbrev pub decreases-loop-table : goal.decreases-loop-table
decreases-loop-table l = length l.left
