use Rattle.std.proofs.Common.{◌≡◌, ◌++◌, length}
use Rattle.blif_core.specs.Written.{latch_lines, sig_name, next_states}
use Rattle.blif_core.proofs.written.push_latches.Given as goal

abbrev pub invariant-loop-latch : goal.invariant-loop-latch
invariant-loop-latch l = l.lines.items ++ latch_lines (sig_name l.circuit) l.left l.left_sinks ≡ l.initial.lines.items ++ latch_lines (sig_name l.circuit) l.latches (next_states l.circuit)

abbrev pub decreases-loop-latch : goal.decreases-loop-latch
decreases-loop-latch l = length l.left
