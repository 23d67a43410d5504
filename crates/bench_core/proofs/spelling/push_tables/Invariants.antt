use Rattle.std.proofs.Common.{◌≡◌, ◌++◌, length}
use Rattle.std.specs.Prelude.{All}
use Rattle.std.specs.List.{flat_map}
use Rattle.bench_core.specs.Spelling.{table_text, IsSmallTable}
use Rattle.bench_core.proofs.spelling.push_tables.Given as goal

abbrev pub invariant-loop-table : goal.invariant-loop-table
invariant-loop-table l = record {
  same : l.text.items ++ flat_map (table_text l.source) l.left ≡ l.initial.text.items ++ flat_map (table_text l.source) l.tables;
  small : All IsSmallTable l.left;
}

abbrev pub decreases-loop-table : goal.decreases-loop-table
decreases-loop-table l = length l.left
