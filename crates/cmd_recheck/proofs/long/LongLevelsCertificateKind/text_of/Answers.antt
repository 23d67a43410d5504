-- The text reports the verdict of the bytes.
use Rattle.cmd_recheck.proofs.RecheckingLong.{levels_text_reported}
use Rattle.cmd_recheck.proofs.long.LongLevelsCertificateKind.text_of.Goals as goal

pub returns : goal.returns
returns c = λ bytes within ends. levels_text_reported c.args.self.now.most bytes c.args.verdict c.levels_bytes.result within ends c.levels_bytes.ensures
