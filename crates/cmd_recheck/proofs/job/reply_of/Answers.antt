-- The reader returns the result of the bytes, and a fault that was kept is theirs.
use Rattle.cmd_recheck.proofs.Keeping.{refused_at_last}
use Rattle.cmd_recheck.proofs.job.reply_of.Goals as goal

pub returns-in-Refused : goal.returns-in-Refused
returns-in-Refused g c = λ bytes keeps within. refused_at_last (g.K.CertificateKind.task c.args.kind.now) (g.K.CertificateKind.most c.args.kind.now) g.K.Lines.LineStage.stands c.args.kept c.in-Refused.refusal bytes c.in-Refused.is keeps within
