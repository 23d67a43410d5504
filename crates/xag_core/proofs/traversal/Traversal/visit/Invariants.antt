use Rattle.std.proofs.Common.{◌≡◌}
use Rattle.xag_core.proofs.traversal.Traversal.visit.Given as goal

abbrev pub invariant-loop-step : goal.invariant-loop-step
invariant-loop-step l = l.self.builder.sources ≡ l.initial.self.builder.sources
