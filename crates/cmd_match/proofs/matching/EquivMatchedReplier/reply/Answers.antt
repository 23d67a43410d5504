use Rattle.std.proofs.Common.{sym, ◌∙◌}
use Rattle.cmd_match.proofs.Comparisons.{compares, refuses_pair}
use Rattle.cmd_match.proofs.matching.EquivMatchedReplier.reply.Goals as goal

pub returns-in-Ok-reply_of_named : goal.returns-in-Ok-reply_of_named
returns-in-Ok-reply_of_named g c =
    compares c.args.self.now.formats c.args.self.now.budget c.args.self.now.first.now c.args.bytes.now _ _ _ _ _
    c.requires.within
    (sym c.is_bare-first_says_nothing.ensures ∙ c.if-first_says_nothing.false)
    (sym c.is_bare-second_says_nothing.ensures ∙ c.if-second_says_nothing.false)
    c.in-Ok.ensures.answer c.in-Ok.ensures.no_sink c.in-Ok-reply_of_named.ensures

pub returns-in_default : goal.returns-in_default
returns-in_default g c =
    refuses_pair c.args.self.now.formats c.args.self.now.budget c.args.self.now.first.now c.args.bytes.now
    c.in-Err.error c.in-Refused.fault _
    c.requires.within
    (sym c.is_bare-first_says_nothing.ensures ∙ c.if-first_says_nothing.false)
    (sym c.is_bare-second_says_nothing.ensures ∙ c.if-second_says_nothing.false)
    c.in-Err.ensures.refused c.in-Refused.is c.in_default.not-Memory c.refusal_of.ensures
