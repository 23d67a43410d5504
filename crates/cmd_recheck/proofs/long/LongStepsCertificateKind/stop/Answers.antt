-- A fault that isn't running out of memory is that of the definition.
use Rattle.frame_core.specs.Views.{refusal_value}
use Rattle.cmd_recheck.proofs.RecheckingLong.{stops}
use Rattle.cmd_recheck.proofs.long.LongStepsCertificateKind.stop.Goals as goal

pub returns-in_default : goal.returns-in_default
returns-in_default c = λ bytes within ends. stops c.args.self.now.most bytes c.args.error (refusal_value c.refusal_of.result) within c.in_default.not-Memory ends.exact c.refusal_of.ensures
