use Rattle.frame_core.proofs.Pieces.{reported_line}
use Rattle.frame_core.proofs.reporting.report_error.Goals as goal

pub returns-clause-line : goal.returns-clause-line
returns-clause-line g c = reported_line _ _ c.args.line.now.fields c.write_line.result c.write_line.ensures.prefix c.write_line.ensures.all c.write_line.ensures.only_if_rose
