-- The reader of the certificate has read nothing yet.
use Rattle.depth_file.proofs.After.{prefix_begins}
use Rattle.depth_file.proofs.line_stage.StageLineStage.start.Goals as goal

pub returns-clause-stands : goal.returns-clause-stands
returns-clause-stands c = λ text answer answered. prefix_begins c.new.result text answer c.new.ensures.stands answered
