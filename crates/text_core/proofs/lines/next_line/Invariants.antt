use Rattle.std.proofs.Common.{◌≡◌, ◌+◌, length, take, drop}
use Rattle.text_core.specs.Lines.{lines_from, lines_of}
use Rattle.text_core.proofs.lines.next_line.Given as goal

abbrev pub invariant-loop-byte : goal.invariant-loop-byte
invariant-loop-byte l = (lines_from (take l.at l.bytes) l.left ≡ lines_of l.bytes) × (l.left ≡ drop l.at l.bytes) × (l.at + length l.left ≡ length l.bytes)

abbrev pub decreases-loop-byte : goal.decreases-loop-byte
decreases-loop-byte l = length l.left
