-- After the lines of the certificate, or another stage unchanged.
use Rattle.std.proofs.Common.{[], subst}
use Rattle.depth_file.specs.Stages.{AnswersLines}
use Rattle.depth_file.specs.declared.stage.Stage.{Stage}
use Rattle.depth_file.proofs.After.{prefix_over, other_stage}
use Rattle.depth_file.proofs.stepping.closed.Goals as goal

pub returns-in-Prefix-clause-answer : goal.returns-in-Prefix-clause-answer
returns-in-Prefix-clause-answer c = λ number answer stands.
    c.after_certificate.ensures.answer number [] answer (prefix_over c.in-Prefix.reader number answer (subst (λ (s : Stage). AnswersLines s number [] answer) c.in-Prefix.is stands))

pub returns-in_default : goal.returns-in_default
returns-in_default c = record { following = other_stage c.args.stage c.in_default.not-Prefix; answer = λ number answer stands. stands }
