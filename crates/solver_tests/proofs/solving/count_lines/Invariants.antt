use Rattle.std.proofs.Common.{length}
use Rattle.solver_tests.proofs.solving.count_lines.Given as goal

abbrev pub decreases-lines : goal.decreases-lines
decreases-lines l = length l.left
