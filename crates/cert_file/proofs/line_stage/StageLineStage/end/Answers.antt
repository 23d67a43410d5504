-- The result of all lines, and what follows for the text.
use Rattle.text_core.specs.Lines.{lines_of}
use Rattle.cert_theory.specs.Judging.{certificate_of}
use Rattle.cert_file.specs.EndLaws.{ended}
use Rattle.cert_file.proofs.line_stage.StageLineStage.end.Goals as goal

pub returns : goal.returns
returns c = λ text place stands. ended text c.verdict_of.result (c.verdict_of.ensures (certificate_of (lines_of text)) stands.0)
