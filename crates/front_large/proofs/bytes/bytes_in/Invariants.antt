-- The rest of the digits, after those that were read, spells the number.
use Rattle.std.proofs.Common.{◌≡◌, ◌≤◌, length}
use Rattle.text_core.specs.Numbers.{number_from, number_up_to}
use Rattle.front_large.specs.LargeWords.{most_of_long}
use Rattle.front_large.proofs.bytes.bytes_in.Given as goal

abbrev pub invariant-loop-byte : goal.invariant-loop-byte
invariant-loop-byte l = (number_from most_of_long l.value l.left ≡ number_up_to most_of_long l.word) × (l.value ≤ most_of_long)

abbrev pub decreases-loop-byte : goal.decreases-loop-byte
decreases-loop-byte l = length l.left
