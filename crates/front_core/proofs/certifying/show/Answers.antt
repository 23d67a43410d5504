use Rattle.std.proofs.Common.{sym, ◌∙◌}
use Rattle.front_core.proofs.Certificates.{reopened}
use Rattle.front_core.proofs.certifying.show.Goals as goal

pub returns : goal.returns
returns g c = reopened c.args.name.now c.args.ended c.show_lines-shown.result (g.W.Draft.Sink.written c.args.draft.now)
    _ _ _ _ _ _ c.status_after.result (sym c.is_answer.ensures ∙ c.if-not-is_answer.false)
    c.in-Ok.ensures.unchanged c.in-Ok.ensures.shows c.show_lines-shown.ensures c.status_after.ensures
