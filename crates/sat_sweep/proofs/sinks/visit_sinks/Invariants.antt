use Rattle.sat_sweep.specs.KeepsFormula.{KeepsFormula}
use Rattle.sat_sweep.proofs.sinks.visit_sinks.Given as goal

abbrev pub invariant-loop-sink : goal.invariant-loop-sink
invariant-loop-sink g l = KeepsFormula g.S.Solver.IsSolverOf g.S.Solver.vars_of g.S.Solver.additions_of l.bounds.most l.initial.solver l.solver
