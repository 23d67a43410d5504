-- The text reports the verdict of the bytes.
use Rattle.cmd_recheck.proofs.RecheckingDepth.{reports_text}
use Rattle.cmd_recheck.proofs.recheck_depth.LevelsCertificateKind.text_of.Goals as goal

pub returns : goal.returns
returns c = λ bytes within ends. reports_text bytes c.args.verdict c.levels_bytes.result within ends c.levels_bytes.ensures
