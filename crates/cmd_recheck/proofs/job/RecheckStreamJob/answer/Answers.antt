use Rattle.frame_core.specs.PerformingLaws.{answered}
use Rattle.cmd_recheck.proofs.Keeping.{is_within}
use Rattle.cmd_recheck.proofs.job.RecheckStreamJob.answer.Goals as goal

-- Writing the result answers the input.
pub returns : goal.returns
returns g c bytes keeps within =
    answered (g.K.CertificateKind.task c.args.self.now.0) bytes c.reply_of.result c.finish.result _ _
    (c.reply_of.ensures bytes keeps (is_within (g.K.CertificateKind.task c.args.self.now.0).reads (g.K.CertificateKind.most c.args.self.now.0) bytes
    (g.K.CertificateKind.reads c.args.self.now.0) within)) c.finish.ensures
