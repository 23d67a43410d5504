use Rattle.std.proofs.Common.{◌≡◌, ◌+◌, length}
use Rattle.indexmap.specs.IndexMap.{get}
use Rattle.net_theory.specs.Document.{is_same}
use Rattle.net_theory.specs.NetOf.{with_sources}
use Rattle.net_build.proofs.signals.number_names.Given as goal

abbrev pub invariant-loop-name : goal.invariant-loop-name
invariant-loop-name l = record {
  same : with_sources (get is_same l.signals) l.node l.left ≡ with_sources (get is_same l.initial.signals) l.first l.names;
  room : l.node + length l.left ≡ l.first + length l.names;
}

abbrev pub decreases-loop-name : goal.decreases-loop-name
decreases-loop-name l = length l.left
