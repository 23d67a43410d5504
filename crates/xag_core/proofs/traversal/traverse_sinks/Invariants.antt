use Rattle.std.proofs.Common.{◌≡◌, length}
use Rattle.xag_core.proofs.traversal.traverse_sinks.Given as goal

abbrev pub invariant-loop-sink : goal.invariant-loop-sink
invariant-loop-sink l = record {
  sources : l.traversal.builder.sources ≡ l.initial.traversal.builder.sources;
  count : length l.sinks.items ≡ l.sink-index;
}
