use Rattle.std.proofs.Common.{◌≡◌, Some}
use Rattle.graph_core.specs.Visit.{visit}
use Rattle.graph_core.specs.Frames.{all_ended, all_steps}
use Rattle.graph_core.proofs.visiting.visit_from.Given as goal

abbrev pub invariant-loop-frame : goal.invariant-loop-frame
invariant-loop-frame l = all_ended l.graph l.stack.items (Some l.order.keys) ≡ visit l.graph l.fn.depth l.initial.order.keys l.fn.node

abbrev pub decreases-loop-frame : goal.decreases-loop-frame
decreases-loop-frame l = all_steps l.graph l.stack.items
