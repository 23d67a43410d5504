use Rattle.std.proofs.Common.{◌≡◌, ◌+◌, ◌≤◌, length}
use Rattle.blif_text.specs.Logical.{logical_of}
use Rattle.blif_text.specs.Statements.{steps}
use Rattle.blif_text.proofs.walking.take_lines.Given as goal

abbrev pub invariant-loop-line : goal.invariant-loop-line
invariant-loop-line l = record {
  same : steps l.reading (logical_of l.number l.left) ≡ steps l.initial.reading (logical_of 1 l.bytes);
  room : l.number + length l.left ≤ 1 + length l.bytes;
}

abbrev pub decreases-loop-line : goal.decreases-loop-line
decreases-loop-line l = length l.left
