-- The text reports the verdict of the bytes.
use Rattle.cmd_recheck.proofs.Rechecking.{reports_text}
use Rattle.cmd_recheck.proofs.recheck.StepsCertificateKind.text_of.Goals as goal

pub returns : goal.returns
returns c = λ bytes within ends. reports_text bytes c.args.verdict c.verdict_bytes.result within ends c.verdict_bytes.ensures
