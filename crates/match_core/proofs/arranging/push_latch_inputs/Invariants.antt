use Rattle.std.proofs.Common.{◌≡◌, ◌++◌, length, map}
use Rattle.net_theory.specs.Document.{latch_input}
use Rattle.match_core.proofs.arranging.push_latch_inputs.Given as goal

abbrev pub invariant-loop-line : goal.invariant-loop-line
invariant-loop-line l = l.names.items ++ map latch_input l.left ≡ l.initial.names.items ++ map latch_input l.lines

abbrev pub decreases-loop-line : goal.decreases-loop-line
decreases-loop-line l = length l.left
