use Rattle.std.proofs.Common.{◌≡◌, ◌+◌, true, length, take, drop}
use Rattle.op_basis.specs.ReadBack.{is_item}
use Rattle.op_basis.proofs.text.next_item.Given as goal

abbrev pub invariant-loop-byte : goal.invariant-loop-byte
invariant-loop-byte l = (is_item (take l.at l.text) ≡ true) × (l.left ≡ drop l.at l.text) × (l.at + length l.left ≡ length l.text)

abbrev pub decreases-loop-byte : goal.decreases-loop-byte
decreases-loop-byte l = length l.left
