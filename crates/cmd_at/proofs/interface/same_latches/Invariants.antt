use Rattle.std.proofs.Common.{◌≡◌, ◌↔◌, length}
use Rattle.cmd_at.proofs.interface.same_latches.Given as goal

abbrev pub invariant-loop-latch : goal.invariant-loop-latch
invariant-loop-latch l = record { same : (l.left ≡ l.right) ↔ (l.first ≡ l.second) }

abbrev pub decreases-loop-latch : goal.decreases-loop-latch
decreases-loop-latch l = length l.left
