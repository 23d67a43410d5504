-- What has no part is refused, whatever is written of it.
use Rattle.cmd_formula.specs.FormulaReport.{log_part}
use Rattle.cmd_formula.proofs.replies.log_text.Goals as goal

pub returns-in-Err-clause-stop : goal.returns-in-Err-clause-stop
returns-in-Err-clause-stop c = c.in-Err.ensures.stop log_part
