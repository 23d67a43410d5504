use Rattle.std.proofs.Common.{◌≡◌, length}
use Rattle.xag_core.proofs.net_in.sink_literals.Given as goal

abbrev pub invariant-loop-sink : goal.invariant-loop-sink
invariant-loop-sink l = length l.literals.items ≡ l.sink-index
