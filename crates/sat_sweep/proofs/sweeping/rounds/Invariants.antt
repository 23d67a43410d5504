use Rattle.sat_sweep.specs.KeepsFormula.{KeepsFormula}
use Rattle.sat_sweep.proofs.sweeping.rounds.Given as goal

abbrev pub invariant-loop-limit : goal.invariant-loop-limit
invariant-loop-limit g l = KeepsFormula g.S.Solver.IsSolverOf g.S.Solver.vars_of g.S.Solver.additions_of l.bounds.most l.initial.solver l.solver
