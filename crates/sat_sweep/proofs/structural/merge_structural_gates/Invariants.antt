use Rattle.sat_sweep.specs.KeepsFormula.{KeepsFormula}
use Rattle.sat_sweep.proofs.structural.merge_structural_gates.Given as goal

abbrev pub invariant-loop-x : goal.invariant-loop-x
invariant-loop-x g l = KeepsFormula g.S.Solver.IsSolverOf g.S.Solver.vars_of g.S.Solver.additions_of l.bounds.most l.initial.solver l.solver
