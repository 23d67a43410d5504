use Rattle.front_formula.proofs.Performing.{formula_performed}
use Rattle.front_formula.proofs.tasks.FormulaWork.work.Goals as goal

pub returns : goal.returns
returns g c = formula_performed c.args.self.now.0.size c.args.self.now.0.part _ _ _ _ _ c.perform.ensures
