use Rattle.observe_core.specs.Differing.{AreAdded}
use Rattle.observe_core.proofs.output_differences.add_cone_outputs.Given as goal

abbrev pub invariant-loop-i : goal.invariant-loop-i
invariant-loop-i l = AreAdded l.first l.second l.start l.fanout_cone l.cone_outputs l.i l.initial.differ l.differ
