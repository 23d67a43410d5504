use Rattle.front_formula.proofs.Pairs.{log_written}
use Rattle.front_formula.proofs.miters.MiterLogProgram.compare.Goals as goal

pub returns : goal.returns
returns g c = log_written c.args.budget c.args.text.now _ _ _ _ c.perform.ensures
