use Rattle.std.proofs.Common.{length}
use Rattle.window_core.specs.Gates.{IsSought}
use Rattle.window_core.proofs.growing.greatest.Given as goal

abbrev pub invariant-loop-node : goal.invariant-loop-node
invariant-loop-node l = IsSought l.net l.root l.fn.partner l.taken l.bound l.left l.best

abbrev pub decreases-loop-node : goal.decreases-loop-node
decreases-loop-node l = length l.left
