use Rattle.std.proofs.Common.{◌≡◌, length}
use Rattle.text_core.specs.Lines.{lines_of}
use Rattle.cmd_formula.specs.LogLines.{has_log}
use Rattle.cmd_formula.proofs.lines.has_log.Given as goal

abbrev pub invariant-loop-text : goal.invariant-loop-text
invariant-loop-text l = has_log l.word l.count (lines_of l.left) ≡ has_log l.word l.others (lines_of l.bytes)

abbrev pub decreases-loop-text : goal.decreases-loop-text
decreases-loop-text l = length l.left
