use Rattle.std.proofs.Common.{◌≡◌, ◌++◌, map}
use Rattle.blif_covers.specs.Least.{least_table}
use Rattle.blif_covers.proofs.documents.least_tables.Given as goal

abbrev pub invariant-loop-table : goal.invariant-loop-table
invariant-loop-table l = l.least.items ++ map least_table l.table-iterator.rest.items ≡
    map least_table l.fn.tables.items
