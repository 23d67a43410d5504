use Rattle.std.proofs.Common.{◌≡◌}
use Rattle.graph_core.specs.Visit.{order_of}
use Rattle.graph_core.proofs.Visits.{order_from}
use Rattle.graph_core.proofs.visiting.visit_all.Given as goal

abbrev pub invariant-loop-node : goal.invariant-loop-node
invariant-loop-node l = order_from l.graph l.node l.order.keys ≡ order_of l.graph
