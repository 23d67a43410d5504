-- A property of each answer is how the lines are judged, and what follows for the text.
use Rattle.text_core.specs.Lines.{lines_of}
use Rattle.depth_file.specs.EndLaws.{ended}
use Rattle.depth_file.proofs.After.{judged_by}
use Rattle.depth_file.proofs.line_stage.StageLineStage.end.Goals as goal

pub returns : goal.returns
returns c = λ text place stands. ended text c.verdict_of.result (judged_by c.verdict_of.result (lines_of text) (λ answer answered. c.verdict_of.ensures answer (stands answer answered)))
