-- The result that the stage determines, and what it keeps.
use Rattle.std.proofs.Common.{◌+◌}
use Rattle.cert_theory.specs.Judging.{certificate_of}
use Rattle.cert_file.proofs.StageAnswers.{taken_both}
use Rattle.cert_file.proofs.line_stage.StageLineStage.take.Goals as goal

pub returns-clause-stands : goal.returns-clause-stands
returns-clause-stands c = λ lines ls all free place stands same.
    taken_both c.take.result (c.args.line.now.number + 1) ls all (c.take.ensures.answer lines ls (certificate_of all) stands.0 same) (c.take.ensures.keeps_claim lines ls all place stands.1 same)
