use Rattle.std.proofs.Common.{◌≡◌, ◌++◌, length}
use Rattle.std.specs.List.{flat_map}
use Rattle.blif_core.specs.Spelling.{table_text}
use Rattle.blif_core.proofs.spelling.push_tables.Given as goal

abbrev pub invariant-loop-table : goal.invariant-loop-table
invariant-loop-table l = l.text.items ++ flat_map table_text l.left ≡ l.initial.text.items ++ flat_map table_text l.tables

abbrev pub decreases-loop-table : goal.decreases-loop-table
decreases-loop-table l = length l.left
