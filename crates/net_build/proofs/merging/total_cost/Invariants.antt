use Rattle.std.proofs.Common.{◌≡◌, ◌+◌, length}
use Rattle.std.specs.Prelude.{All, sum_by}
use Rattle.net_theory.specs.Cost.{table_cost}
use Rattle.net_theory.specs.WellFormed.{IsTable}
use Rattle.net_build.proofs.merging.total_cost.Given as goal

abbrev pub invariant-loop-table : goal.invariant-loop-table
invariant-loop-table l = record {
  sum : l.total + sum_by table_cost l.left ≡ sum_by table_cost l.tables;
  tables : All IsTable l.left;
}

abbrev pub decreases-loop-table : goal.decreases-loop-table
decreases-loop-table l = length l.left
