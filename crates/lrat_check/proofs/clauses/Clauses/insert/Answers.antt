use Rattle.std.proofs.Common.{◌∙◌, ap}
use Rattle.sat_theory.specs.State.{with_clause}
use Rattle.lrat_check.specs.Live.{Live, live_at}
use Rattle.lrat_check.proofs.Entries.{live-insert}
use Rattle.lrat_check.proofs.clauses.Clauses.insert.Goals as goal

pub returns-clause-ok : goal.returns-clause-ok
returns-clause-ok c =
    live-insert c.self.inside.live c.insert.new.self c.args.id c.args.clause c.in_ok-insert.ensures.updates.0
    ∙ ap (λ (m : Live). with_clause (live_at m) c.args.id c.args.clause) c.self.view_is
