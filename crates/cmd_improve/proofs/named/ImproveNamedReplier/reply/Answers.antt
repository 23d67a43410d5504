use Rattle.std.proofs.Common.{sym, ◌∙◌}
use Rattle.cmd_improve.proofs.Naming.{judged}
use Rattle.cmd_improve.proofs.named.ImproveNamedReplier.reply.Goals as goal

pub returns : goal.returns
returns g c =
    judged c.args.self.now.format c.args.self.now.settings c.args.bytes.now _
    (sym c.is_bare-says_nothing.ensures ∙ c.if-says_nothing.false) c.reply_to.ensures
