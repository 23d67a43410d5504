use Rattle.std.proofs.Common.{◌≡◌, ◌++◌, length}
use Rattle.indexmap.specs.IndexMap.{get}
use Rattle.net_theory.specs.Document.{is_same}
use Rattle.net_build.specs.Parts.{graph_by}
use Rattle.net_build.proofs.signals.graph_by.Given as goal

abbrev pub invariant-loop-table : goal.invariant-loop-table
invariant-loop-table l = l.graph.items ++ graph_by (get is_same l.drivers) l.left ≡ graph_by (get is_same l.drivers) l.tables

abbrev pub decreases-loop-table : goal.decreases-loop-table
decreases-loop-table l = length l.left
