use Rattle.std.proofs.Common.{◌≡◌, ◌↔◌, length}
use Rattle.cmd_at.proofs.interface.same_names.Given as goal

abbrev pub invariant-loop-name : goal.invariant-loop-name
invariant-loop-name l = record { same : (l.left ≡ l.right) ↔ (l.first ≡ l.second) }

abbrev pub decreases-loop-name : goal.decreases-loop-name
decreases-loop-name l = length l.left
