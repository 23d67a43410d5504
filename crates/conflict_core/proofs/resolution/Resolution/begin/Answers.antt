use Rattle.std.proofs.Common.{◌∙◌, ◌++◌, ◌∷◌, [], ap}
use Rattle.clause_db.specs.Stored.{live_in}
use Rattle.conflict_core.proofs.Conflicts.{resolution_begun}
use Rattle.conflict_core.proofs.resolution.Resolution.begin.Goals as goal

pub returns-clause-resolution : goal.returns-clause-resolution
returns-clause-resolution c =
    resolution_begun (live_in c.args.clauses.now) c.args.trail.now c.args.conflict
    c.in_ok-mark_clause.ensures.marked.clause c.args.self.now.marks c.mark_clause.new.self.marks
    c.mark_clause.new.self.touched.items c.clear-2.new.self.items c.push.new.self.items
    c.requires.whole c.requires.clear c.requires.conflict c.in_ok-mark_clause.ensures.marked.is_live
    c.in_ok-mark_clause.ensures.marked.marked c.in_ok-mark_clause.ensures.listed c.clear-2.ensures.items
    (c.in_ok-push.ensures.items ∙ ap (λ h. h.items ++ c.args.conflict ∷ []) c.in_ok-mark_clause.ensures.hints)
