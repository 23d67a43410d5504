use Rattle.std.proofs.Common.{◌≡◌, ◌++◌, length}
use Rattle.text_core.specs.Lines.{lines_of}
use Rattle.cert_theory.specs.Spelling.{text_of, done_text}
use Rattle.cmd_formula.specs.LogLines.{lines_before}
use Rattle.cmd_formula.proofs.lines.push_log.Given as goal

abbrev pub invariant-loop-text : goal.invariant-loop-text
invariant-loop-text l = l.out.items ++ text_of (lines_before done_text (lines_of l.left)) ≡ l.initial.out.items ++ text_of (lines_before done_text (lines_of l.bytes))

abbrev pub decreases-loop-text : goal.decreases-loop-text
decreases-loop-text l = length l.left
