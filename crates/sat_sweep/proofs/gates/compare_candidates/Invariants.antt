use Rattle.sat_sweep.specs.KeepsFormula.{KeepsFormula}
use Rattle.sat_sweep.proofs.gates.compare_candidates.Given as goal

abbrev pub invariant-loop-turn : goal.invariant-loop-turn
invariant-loop-turn g l = KeepsFormula g.S.Solver.IsSolverOf g.S.Solver.vars_of g.S.Solver.additions_of l.bounds.most l.initial.solver l.solver
