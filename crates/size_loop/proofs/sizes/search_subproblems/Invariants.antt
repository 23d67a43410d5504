-- The subproblems so far have their logs, or the search of the size stopped.
use Rattle.size_loop.specs.Outcomes.{AreTried}
use Rattle.size_loop.proofs.sizes.search_subproblems.Given as goal

abbrev pub invariant-loop-subproblem : goal.invariant-loop-subproblem
invariant-loop-subproblem g l = AreTried l.header l.size l.yielded l.subproblems.items l.stopped
