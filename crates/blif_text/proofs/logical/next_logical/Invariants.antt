use Rattle.std.proofs.Common.{◌≡◌, ◌+◌, ◌≤◌, length}
use Rattle.text_core.specs.Lines.{lines_of}
use Rattle.blif_text.specs.Logical.{logical_from, logical_of}
use Rattle.blif_text.proofs.logical.next_logical.Given as goal

abbrev pub invariant-loop-line : goal.invariant-loop-line
invariant-loop-line l = record {
  same : logical_from l.next (record { first = l.number; size = l.size; text = l.text.items }) (lines_of l.left) ≡ logical_of l.number l.bytes;
  room : l.next + length l.left ≤ l.number + length l.bytes;
  begun : l.number ≤ l.next;
  size : l.size + length l.left ≤ length l.bytes;
}

abbrev pub decreases-loop-line : goal.decreases-loop-line
decreases-loop-line l = length l.left
