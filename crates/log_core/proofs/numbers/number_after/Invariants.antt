use Rattle.std.proofs.Common.{◌≡◌, ◌≤◌, length}
use Rattle.log_core.specs.Numbers.{numbers_from}
use Rattle.log_core.proofs.numbers.number_after.Given as goal

abbrev pub invariant-loop-byte : goal.invariant-loop-byte
invariant-loop-byte l = record {
  all : numbers_from l.number l.left ≡ numbers_from l.digits l.bytes;
  small : l.number ≤ 17179869184;
  within : length l.left ≤ length l.bytes;
}

abbrev pub decreases-loop-byte : goal.decreases-loop-byte
decreases-loop-byte l = length l.left
