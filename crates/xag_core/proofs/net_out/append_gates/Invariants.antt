use Rattle.std.proofs.Common.{◌≡◌}
use Rattle.xag_core.proofs.net_out.append_gates.Given as goal

abbrev pub invariant-loop-gate : goal.invariant-loop-gate
invariant-loop-gate l = l.net.sources ≡ l.initial.net.sources
