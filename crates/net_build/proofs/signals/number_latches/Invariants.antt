use Rattle.std.proofs.Common.{◌≡◌, ◌+◌, length, map}
use Rattle.indexmap.specs.IndexMap.{get}
use Rattle.net_theory.specs.Document.{is_same, latch_of, latch_output}
use Rattle.net_theory.specs.NetOf.{with_sources}
use Rattle.net_build.proofs.signals.number_latches.Given as goal

abbrev pub invariant-loop-latch : goal.invariant-loop-latch
invariant-loop-latch l = record {
  same : with_sources (get is_same l.signals) l.node (map latch_output (map latch_of l.left)) ≡ with_sources (get is_same l.initial.signals) l.first (map latch_output (map latch_of l.latches));
  room : l.node + length l.left ≡ l.first + length l.latches;
}

abbrev pub decreases-loop-latch : goal.decreases-loop-latch
decreases-loop-latch l = length l.left
