use Rattle.front_formula.proofs.Performing.{log_performed}
use Rattle.front_formula.proofs.tasks.LogWork.work.Goals as goal

pub returns : goal.returns
returns g c = log_performed c.args.self.now.0.size c.args.self.now.0.part _ _ _ _ _ c.perform.ensures
