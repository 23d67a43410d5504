use Rattle.std.proofs.Common.{◌≡◌, length}
use Rattle.text_core.specs.Lines.{lines_of}
use Rattle.cmd_formula.specs.LogLines.{log_from}
use Rattle.cmd_formula.proofs.lines.log_from.Given as goal

abbrev pub invariant-loop-text : goal.invariant-loop-text
invariant-loop-text l = log_from (lines_of l.left) ≡ log_from (lines_of l.bytes)

abbrev pub decreases-loop-text : goal.decreases-loop-text
decreases-loop-text l = length l.left
