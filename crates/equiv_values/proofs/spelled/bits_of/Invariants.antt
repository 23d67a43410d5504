use Rattle.std.proofs.Common.{◌≡◌, ◌++◌, length, map}
use Rattle.equiv_values.specs.Spelled.{is_one}
use Rattle.equiv_values.proofs.spelled.bits_of.Given as goal

abbrev pub invariant-loop-byte : goal.invariant-loop-byte
invariant-loop-byte l = l.bits.items ++ map is_one l.left ≡ map is_one l.word

abbrev pub decreases-loop-byte : goal.decreases-loop-byte
decreases-loop-byte l = length l.left
