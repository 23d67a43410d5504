use Rattle.sat_sweep.specs.KeepsFormula.{KeepsFormula}
use Rattle.sat_sweep.proofs.gates.derive_binary.Given as goal

abbrev pub invariant-loop-second : goal.invariant-loop-second
invariant-loop-second g l = KeepsFormula g.S.Solver.IsSolverOf g.S.Solver.vars_of g.S.Solver.additions_of l.bounds.most l.initial.solver l.solver
