use Rattle.std.proofs.Common.{◌≡◌, ◌+◌, ◌≤◌, length}
use Rattle.text_core.specs.Lines.{lines_of}
use Rattle.aiger_text.specs.Statements.{nothing, steps}
use Rattle.aiger_text.proofs.walking.read_lines.Given as goal

abbrev pub invariant-loop-text : goal.invariant-loop-text
invariant-loop-text l = record {
  same : steps l.number l.counts l.file (lines_of l.left) ≡ steps 2 l.counts (nothing l.counts) (lines_of l.bytes);
  room : l.number + length l.left ≤ 2 + length l.bytes;
}

abbrev pub decreases-loop-text : goal.decreases-loop-text
decreases-loop-text l = length l.left
