-- Each answer of all lines.
use Rattle.std.proofs.Common.{◌+◌}
use Rattle.depth_file.proofs.StageAnswers.{taken_each}
use Rattle.depth_file.proofs.line_stage.StageLineStage.take.Goals as goal

pub returns-clause-stands : goal.returns-clause-stands
returns-clause-stands c = λ lines ls all free place stands same.
    taken_each c.take.result (c.args.line.now.number + 1) ls all (λ answer answered. c.take.ensures.answer lines ls answer free (stands answer answered) same)
