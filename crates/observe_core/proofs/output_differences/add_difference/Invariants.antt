use Rattle.observe_core.specs.Differing.{IsDifferenceAdded}
use Rattle.observe_core.proofs.output_differences.add_difference.Given as goal

abbrev pub invariant-loop-j : goal.invariant-loop-j
invariant-loop-j l = IsDifferenceAdded l.first l.second l.start l.j l.initial.differ l.differ
