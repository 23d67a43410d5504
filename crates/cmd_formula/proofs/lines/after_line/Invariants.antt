use Rattle.std.proofs.Common.{◌≡◌, length}
use Rattle.text_core.specs.Lines.{lines_of}
use Rattle.cmd_formula.specs.LogLines.{lines_after}
use Rattle.cmd_formula.proofs.lines.after_line.Given as goal

abbrev pub invariant-loop-text : goal.invariant-loop-text
invariant-loop-text l = lines_after l.word (lines_of l.left) ≡ lines_after l.word (lines_of l.bytes)

abbrev pub decreases-loop-text : goal.decreases-loop-text
decreases-loop-text l = length l.left
