use Rattle.std.proofs.Common.{◌-◌, length}
use Rattle.graph_core.proofs.CycleLemmas.{Reaches}
use Rattle.graph_core.proofs.cycles.reached.Given as goal

abbrev pub invariant-loop-next : goal.invariant-loop-next
invariant-loop-next l = Reaches l.graph l.node l.at l.set.keys

abbrev pub decreases-loop-next : goal.decreases-loop-next
decreases-loop-next l = length l.graph - l.at
