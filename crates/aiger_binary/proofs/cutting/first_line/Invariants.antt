use Rattle.std.proofs.Common.{◌≡◌, ◌+◌, length, take, drop}
use Rattle.aiger_binary.specs.Cut.{cut_from, cut_first}
use Rattle.aiger_binary.proofs.cutting.first_line.Given as goal

abbrev pub invariant-loop-byte : goal.invariant-loop-byte
invariant-loop-byte l = (cut_from (take l.at l.bytes) l.left ≡ cut_first l.bytes) × (l.left ≡ drop l.at l.bytes) × (l.at + length l.left ≡ length l.bytes)

abbrev pub decreases-loop-byte : goal.decreases-loop-byte
decreases-loop-byte l = length l.left
