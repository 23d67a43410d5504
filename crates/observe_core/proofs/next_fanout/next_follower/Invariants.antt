use Rattle.std.proofs.Common.{length}
use Rattle.observe_core.specs.Following.{IsFollowerSought}
use Rattle.observe_core.proofs.next_fanout.next_follower.Given as goal

abbrev pub invariant-loop-node : goal.invariant-loop-node
invariant-loop-node l = IsFollowerSought l.net l.gates l.left l.best

abbrev pub decreases-loop-node : goal.decreases-loop-node
decreases-loop-node l = length l.left
