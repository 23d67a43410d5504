use Rattle.std.proofs.Common.{◌≡◌, length}
use Rattle.xag_core.proofs.net_out.sink_signals.Given as goal

abbrev pub invariant-loop-sink : goal.invariant-loop-sink
invariant-loop-sink l = record {
  sources : l.net.sources ≡ l.initial.net.sources;
  count : length l.signals.items ≡ l.sink-index;
}
