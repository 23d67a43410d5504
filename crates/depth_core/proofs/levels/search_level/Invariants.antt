-- The fences of the level so far have their logs.
use Rattle.size_loop.specs.Outcomes.{AreLogged}
use Rattle.depth_core.proofs.levels.search_level.Given as goal

abbrev pub invariant-loop-subproblem : goal.invariant-loop-subproblem
invariant-loop-subproblem g l = AreLogged l.header l.size l.yielded l.logs.items
