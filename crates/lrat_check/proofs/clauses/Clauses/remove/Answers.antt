use Rattle.std.proofs.Common.{◌∙◌, ap, [], ◌∷◌}
use Rattle.sat_theory.specs.State.{without}
use Rattle.lrat_check.specs.Live.{Live, live_at}
use Rattle.lrat_check.proofs.Entries.{live-remove}
use Rattle.lrat_check.proofs.clauses.Clauses.remove.Goals as goal

pub returns-in_default : goal.returns-in_default
returns-in_default c =
    live-remove c.self.inside.live c.remove.new.self c.args.id c.remove.ensures.updates.0
    ∙ ap (λ (m : Live). without (live_at m) (c.args.id ∷ [])) c.self.view_is

pub returns : goal.returns
returns c =
    live-remove c.self.inside.live c.remove.new.self c.args.id c.remove.ensures.updates.0
    ∙ ap (λ (m : Live). without (live_at m) (c.args.id ∷ [])) c.self.view_is
