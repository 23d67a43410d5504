-- The text reports the verdict of the bytes.
use Rattle.cmd_recheck.proofs.RecheckingLong.{reports_text}
use Rattle.cmd_recheck.proofs.long.LongStepsCertificateKind.text_of.Goals as goal

pub returns : goal.returns
returns c = λ bytes within ends. reports_text c.args.self.now.most bytes c.args.verdict c.verdict_bytes.result within ends c.verdict_bytes.ensures
