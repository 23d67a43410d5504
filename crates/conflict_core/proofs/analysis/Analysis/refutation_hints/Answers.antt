use Rattle.std.proofs.Common.{◌≡◌, ◌∙◌, [], reverse, ap}
use Rattle.std.proofs.lemmas.Result.{IfOk-weaker}
use Rattle.sat_theory.specs.Holding.{among, HintsHold}
use Rattle.clause_db.specs.Stored.{live_in}
use Rattle.conflict_core.proofs.Conflicts.{resolution_refuted}
use Rattle.conflict_core.proofs.analysis.Analysis.refutation_hints.Goals as goal

pub returns-clause-hints : goal.returns-clause-hints
returns-clause-hints c =
    let resolution = c.resolve_down.new.self in
    IfOk-weaker c.reversed.result (λ v. v.items ≡ reverse c.deref.result.now) (λ hints. HintsHold (live_in c.args.clauses.now) (among []) hints.items)
    (λ hints are. resolution_refuted (live_in c.args.clauses.now) c.args.trail.now resolution.marks
    resolution.touched.items resolution.hints.items hints.items c.len-end.ensures.whole
    c.in_ok-resolve_down.ensures.resolution c.in_ok-resolve_down.ensures.none (are
    ∙ ap (λ xs. reverse xs) c.deref.ensures.value))
    c.reversed.ensures
