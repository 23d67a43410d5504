use Rattle.std.proofs.Common.{◌≡◌, length}
use Rattle.indexmap.specs.IndexMap.{get}
use Rattle.net_theory.specs.Document.{is_same}
use Rattle.net_theory.specs.NetOf.{with_tables, source_count}
use Rattle.net_build.specs.Parts.{growth, IsPartlyBuilt}
use Rattle.net_build.proofs.building.add_tables.Given as goal

abbrev pub invariant-loop-table : goal.invariant-loop-table
invariant-loop-table l = record {
  begun : IsPartlyBuilt l.document l.net (get is_same l.signals) l.left;
  same : with_tables (source_count l.document) l.document.tables (growth l.net.gates (get is_same l.signals)) l.left ≡
      with_tables (source_count l.document) l.document.tables
      (growth l.initial.net.gates (get is_same l.initial.signals)) l.order;
}

abbrev pub decreases-loop-table : goal.decreases-loop-table
decreases-loop-table l = length l.left
