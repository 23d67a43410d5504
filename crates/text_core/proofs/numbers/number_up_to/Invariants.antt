use Rattle.std.proofs.Common.{◌≡◌, ◌≤◌, length}
use Rattle.text_core.specs.Numbers.{number_from, number_up_to}
use Rattle.text_core.proofs.numbers.number_up_to.Given as goal

abbrev pub invariant-loop-byte : goal.invariant-loop-byte
invariant-loop-byte l = (number_from l.limit l.value l.left ≡ number_up_to l.limit l.text) × (l.value ≤ l.limit)

abbrev pub decreases-loop-byte : goal.decreases-loop-byte
decreases-loop-byte l = length l.left
