use Rattle.cdcl_theory.specs.Trails.{falsified_at}
use Rattle.clause_db.specs.Stored.{live_in}
use Rattle.conflict_core.proofs.Gathering.{marked_by}
use Rattle.conflict_core.proofs.resolution.Resolution.mark_clause.Goals as goal

pub returns-clause-marked : goal.returns-clause-marked
returns-clause-marked c = marked_by (live_in c.args.clauses.now)
    (falsified_at c.args.trail.now) c.args.id c.arranged.result.now c.args.self.now.marks
    c.mark_falsified.new.self.marks c.requires.live c.arranged.ensures.same c.in_ok-mark_falsified.ensures.marked
