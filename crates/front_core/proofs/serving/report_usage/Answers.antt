use Rattle.frame_core.specs.Reported.{usage}
use Rattle.frame_core.specs.Views.{line_value}
use Rattle.frame_core.specs.PerformingLaws.{named_as}
use Rattle.front_core.proofs.serving.report_usage.Goals as goal

pub returns-clause-line : goal.returns-clause-line
unfolding usage
returns-clause-line g c = named_as _ _ (line_value c.plain.result) usage c.plain.ensures c.report_error.ensures.line
