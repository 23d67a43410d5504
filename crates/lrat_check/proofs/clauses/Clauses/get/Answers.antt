use Rattle.std.proofs.Common.{◌∙◌, ap, sym}
use Rattle.lrat_check.specs.Live.{Live, live_at}
use Rattle.lrat_check.proofs.Entries.{live_get}
use Rattle.lrat_check.proofs.clauses.Clauses.get.Goals as goal

pub returns : goal.returns
returns c = c.get.ensures.value ∙ sym (live_get c.self.inside.live c.args.id) ∙ ap (λ (m : Live). live_at m c.args.id) c.self.view_is
