use Rattle.file_io.proofs.Lines.{reported_fault}
use Rattle.file_io.proofs.reporting.report_line.Goals as goal

pub returns-clause-line : goal.returns-clause-line
returns-clause-line g c = reported_fault _ _ c.args.what.now c.args.name.now c.args.reason.now c.write_line.result c.write_line.ensures.prefix c.write_line.ensures.all c.write_line.ensures.only_if_rose
