use Rattle.graph_core.proofs.CycleLemmas.{AreApart}
use Rattle.graph_core.proofs.cycles.first_cyclic.Given as goal

abbrev pub invariant-loop-node : goal.invariant-loop-node
invariant-loop-node l = AreApart l.graph l.node
