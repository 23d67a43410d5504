use Rattle.std.proofs.Common.{◌≡◌}
use Rattle.text_core.specs.Lines.{lines_of}
use Rattle.cmd_formula.specs.LogLines.{after_logs}
use Rattle.cmd_formula.proofs.lines.after_logs.Given as goal

abbrev pub invariant-loop-others : goal.invariant-loop-others
invariant-loop-others l = after_logs l.others (lines_of l.left) ≡ after_logs l.count (lines_of l.bytes)

abbrev pub decreases-loop-others : goal.decreases-loop-others
decreases-loop-others l = l.others
