-- There are as many sinks as signals so far, each of them in the net.
use Rattle.std.proofs.Common.{◌≡◌, ◌+◌, length}
use Rattle.std.specs.Prelude.{All}
use Rattle.net_theory.specs.Net.{IsSigBelow}
use Rattle.xag_core.proofs.net_builder.NetBuilder.signals_within.Given as goal

abbrev pub invariant-loop-signal : goal.invariant-loop-signal
invariant-loop-signal l = record {
  count : length l.sinks.items ≡ l.signal-index;
  end : l.end ≡ l.self.sources + 1 + length l.self.gates;
  below : All (IsSigBelow l.end) l.sinks.items;
}
