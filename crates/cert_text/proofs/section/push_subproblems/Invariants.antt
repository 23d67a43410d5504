use Rattle.std.proofs.Common.{◌≡◌, ◌++◌, length}
use Rattle.cert_text.specs.Texts.{subproblems_text}
use Rattle.cert_text.proofs.section.push_subproblems.Given as goal

abbrev pub invariant-loop-subproblem : goal.invariant-loop-subproblem
invariant-loop-subproblem l = l.text.items ++ subproblems_text l.left ≡ l.initial.text.items ++ subproblems_text l.subproblems

abbrev pub decreases-loop-subproblem : goal.decreases-loop-subproblem
decreases-loop-subproblem l = length l.left
