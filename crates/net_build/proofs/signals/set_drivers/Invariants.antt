use Rattle.std.proofs.Common.{◌≡◌, ◌++◌, length, drop}
use Rattle.indexmap.specs.IndexMap.{get}
use Rattle.net_theory.specs.Document.{is_same}
use Rattle.net_theory.specs.NetOf.{driver_from}
use Rattle.net_build.proofs.signals.set_drivers.Given as goal

abbrev pub invariant-loop-table : goal.invariant-loop-table
invariant-loop-table l = record {
  found : get is_same l.drivers ≡ driver_from (length l.left) (drop (length l.left) l.tables);
  whole : l.left ++ drop (length l.left) l.tables ≡ l.tables;
}

abbrev pub decreases-loop-table : goal.decreases-loop-table
decreases-loop-table l = length l.left
