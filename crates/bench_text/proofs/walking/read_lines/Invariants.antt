use Rattle.std.proofs.Common.{◌≡◌, ◌+◌, ◌≤◌, length}
use Rattle.text_core.specs.Lines.{lines_of}
use Rattle.bench_text.specs.Statements.{nothing, steps}
use Rattle.bench_text.proofs.walking.read_lines.Given as goal

abbrev pub invariant-loop-text : goal.invariant-loop-text
invariant-loop-text l = record {
  same : steps l.number l.listed (lines_of l.left) ≡ steps 1 nothing (lines_of l.bytes);
  room : l.number + length l.left ≤ 1 + length l.bytes;
}

abbrev pub decreases-loop-text : goal.decreases-loop-text
decreases-loop-text l = length l.left
