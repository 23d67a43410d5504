use Rattle.std.proofs.Common.{◌≡◌, length}
use Rattle.cmd_at.specs.AtBits as spec
use Rattle.cmd_at.proofs.bits.are_bits.Given as goal

abbrev pub invariant-loop-byte : goal.invariant-loop-byte
invariant-loop-byte l = spec.are_bits l.left ≡ spec.are_bits l.word

abbrev pub decreases-loop-byte : goal.decreases-loop-byte
decreases-loop-byte l = length l.left
