use Rattle.std.proofs.Common.{◌≡◌, ◌+◌, ◌≤◌, ◌++◌, length}
use Rattle.cmd_at.specs.AtText.{sink_lines}
use Rattle.cmd_at.proofs.writing.push_sinks.Given as goal

abbrev pub invariant-loop-one : goal.invariant-loop-one
invariant-loop-one l = record {
  low : l.before + length l.left ≤ length l.outputs + length l.latches;
  lines : l.text.items ++ sink_lines l.outputs l.latches l.before l.left l.right ≡ l.initial.text.items ++ sink_lines l.outputs l.latches 0 l.ones l.others;
}

abbrev pub decreases-loop-one : goal.decreases-loop-one
decreases-loop-one l = length l.left
