use Rattle.observe_core.specs.Following.{IsFanoutSearch, way_from}
use Rattle.observe_core.proofs.next_fanout.least_fanout.Given as goal

abbrev pub invariant-loop-next : goal.invariant-loop-next
invariant-loop-next l = IsFanoutSearch l.net l.gates l.node l.next

abbrev pub decreases-loop-next : goal.decreases-loop-next
decreases-loop-next l = way_from l.net l.next
