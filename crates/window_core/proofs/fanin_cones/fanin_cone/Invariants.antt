use Rattle.std.specs.Prelude.{reverse}
use Rattle.window_core.specs.Expanding.{IsFaninCone, top_of}
use Rattle.window_core.proofs.fanin_cones.fanin_cone.Given as goal

abbrev pub invariant-loop-gates : goal.invariant-loop-gates
invariant-loop-gates l = IsFaninCone l.net l.nodes l.leaves.items (reverse l.gates.items)

abbrev pub decreases-loop-gates : goal.decreases-loop-gates
decreases-loop-gates l = top_of l.leaves.items
