use Rattle.std.proofs.Common.{◌∙◌, ◌++◌, ◌∷◌, [], sym, ap}
use Rattle.clause_db.specs.Stored.{live_in}
use Rattle.conflict_core.proofs.Gathering.{listed_unset}
use Rattle.conflict_core.proofs.Resolvents.{resolution_resolved, marks_replaced}
use Rattle.conflict_core.proofs.resolution.Resolution.resolve.Goals as goal

pub mark_clause-requires-clause-listed : goal.mark_clause-requires-clause-listed
mark_clause-requires-clause-listed c = listed_unset c.args.trail.now.vars c.args.self.now.marks c.unset.new.self
    c.args.self.now.touched.items c.opposite.result c.requires.resolution.listed c.unset.ensures.set
    c.unset.ensures.room

pub returns-clause-resolution : goal.returns-clause-resolution
returns-clause-resolution c =
    let off = rw c.opposite.ensures.value at c.unset.ensures.set in
    resolution_resolved (live_in c.args.clauses.now) c.args.trail.now c.args.trail_index c.reason-id.result
    c.at-lit.result c.in_ok-mark_clause.ensures.marked.clause c.args.self.now.marks c.unset.new.self
    c.mark_clause.new.self.marks c.args.self.now.touched.items c.mark_clause.new.self.touched.items
    c.args.self.now.hints.items c.push.new.self.items
    c.at-lit.ensures.whole c.requires.inside (sym (c.at-lit.ensures.value c.at-lit.result)) c.requires.reason
    c.reason-id.ensures.value c.in_ok-mark_clause.ensures.marked.is_live c.requires.resolution off
    c.in_ok-mark_clause.ensures.marked.marked c.in_ok-mark_clause.ensures.listed
    (c.in_ok-push.ensures.items ∙ ap (λ h. h.items ++ c.reason-id.result ∷ []) c.in_ok-mark_clause.ensures.hints)

pub returns-clause-replaced : goal.returns-clause-replaced
returns-clause-replaced c =
    let off = rw c.opposite.ensures.value at c.unset.ensures.set in
    marks_replaced (live_in c.args.clauses.now) c.args.trail.now c.args.trail_index c.reason-id.result c.at-lit.result
    c.in_ok-mark_clause.ensures.marked.clause c.args.self.now.marks c.unset.new.self c.mark_clause.new.self.marks
    c.at-lit.ensures.whole c.requires.inside (sym (c.at-lit.ensures.value c.at-lit.result)) c.requires.reason
    c.reason-id.ensures.value c.in_ok-mark_clause.ensures.marked.is_live off c.in_ok-mark_clause.ensures.marked.marked
