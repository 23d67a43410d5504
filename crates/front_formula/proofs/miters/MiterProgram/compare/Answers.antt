use Rattle.front_formula.proofs.Pairs.{text_written}
use Rattle.front_formula.proofs.miters.MiterProgram.compare.Goals as goal

pub returns : goal.returns
returns g c = text_written c.args.text.now _ _ _ _ c.perform.ensures
