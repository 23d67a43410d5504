-- What has no part is refused, whatever is written of it.
use Rattle.cmd_formula.specs.FormulaReport.{formula_part}
use Rattle.cmd_formula.proofs.replies.formula_text.Goals as goal

pub returns-in-Err-clause-stop : goal.returns-in-Err-clause-stop
returns-in-Err-clause-stop c = c.in-Err.ensures.stop formula_part
