-- The subproblem is that of the next fence.
use Rattle.depth_file.proofs.Going.{subproblem_known, formula_given}
use Rattle.depth_file.proofs.stepping.formula_of.Goals as goal

pub formula-requires-clause-subproblem : goal.formula-requires-clause-subproblem
formula-requires-clause-subproblem c = subproblem_known c.args.flat.now c.subproblem_in.result.now c.requires c.subproblem_in.ensures

pub returns : goal.returns
returns c = formula_given c.args.flat.now c.subproblem_in.result.now c.formula.result c.requires c.subproblem_in.ensures c.formula.ensures
