-- All lines are to come.
use Rattle.std.proofs.Common.{refl}
use Rattle.cert_file.proofs.line_stage.StageLineStage.start.Goals as goal

pub returns-clause-stands : goal.returns-clause-stands
returns-clause-stands c = λ text. (refl, (refl, tt))
