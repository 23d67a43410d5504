use Rattle.std.proofs.Common.{◌≡◌, ◌++◌, length}
use Rattle.std.specs.List.{filter_map}
use Rattle.indexmap.specs.IndexMap.{get}
use Rattle.net_theory.specs.Document.{is_same}
use Rattle.net_build.proofs.signals.reads_of.Given as goal

abbrev pub invariant-loop-name : goal.invariant-loop-name
invariant-loop-name l = l.reads.items ++ filter_map (get is_same l.drivers) l.left ≡ filter_map (get is_same l.drivers) l.names

abbrev pub decreases-loop-name : goal.decreases-loop-name
decreases-loop-name l = length l.left
