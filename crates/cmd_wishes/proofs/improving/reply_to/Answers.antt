use Rattle.std.proofs.Common.{rules}
use Rattle.cmd_wishes.proofs.Answering.{refuses}
use Rattle.cmd_wishes.proofs.improving.reply_to.Goals as goal

pub returns-in-Err : goal.returns-in-Err
returns-in-Err g c =
    refuses c.args.format c.args.settings c.args.wishes c.args.bytes.now _ _ c.requires.length c.requires.said
    (search rules) c.in-Err.ensures.refused c.refusal_of.ensures
