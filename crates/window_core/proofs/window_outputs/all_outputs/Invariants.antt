use Rattle.std.proofs.Common.{length}
use Rattle.window_core.specs.Seen.{AreShown}
use Rattle.window_core.proofs.window_outputs.all_outputs.Given as goal

abbrev pub invariant-loop-node : goal.invariant-loop-node
invariant-loop-node l = AreShown l.net l.gates l.left l.outputs.items

abbrev pub decreases-loop-node : goal.decreases-loop-node
decreases-loop-node l = length l.left
