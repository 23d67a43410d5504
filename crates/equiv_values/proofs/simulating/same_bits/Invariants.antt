use Rattle.std.proofs.Common.{◌≡◌, ◌↔◌, length}
use Rattle.equiv_values.proofs.simulating.same_bits.Given as goal

abbrev pub invariant-loop-bit : goal.invariant-loop-bit
invariant-loop-bit l = record { same : (l.left ≡ l.right) ↔ (l.first ≡ l.second) }

abbrev pub decreases-loop-bit : goal.decreases-loop-bit
decreases-loop-bit l = length l.left
