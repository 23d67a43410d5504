-- A fault that isn't running out of memory is that of the definition.
use Rattle.frame_core.specs.Views.{refusal_value}
use Rattle.cmd_recheck.proofs.Rechecking.{stops}
use Rattle.cmd_recheck.proofs.recheck.StepsCertificateKind.stop.Goals as goal

pub returns-in_default : goal.returns-in_default
returns-in_default c = λ bytes within ends. stops bytes c.args.error (refusal_value c.refusal_of.result) within c.in_default.not-Memory ends.exact c.refusal_of.ensures
