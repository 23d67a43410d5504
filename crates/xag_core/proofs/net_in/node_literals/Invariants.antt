use Rattle.std.proofs.Common.{◌≡◌}
use Rattle.xag_core.proofs.net_in.node_literals.Given as goal

abbrev pub invariant-loop-gate : goal.invariant-loop-gate
invariant-loop-gate l = l.builder.sources ≡ l.initial.builder.sources
