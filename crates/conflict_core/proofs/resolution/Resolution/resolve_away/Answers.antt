use Rattle.std.proofs.Common.{◌≡◌, ◌-◌, ◌<◌, ◌≤◌, ℕ, true, length, ap, sym, subst, ◌∙◌, arith}
use Rattle.std.proofs.lemmas.Result.{on_ok_weaker}
use Rattle.sat_theory.specs.Formula.{opposite}
use Rattle.cdcl_theory.specs.Codes.{marked_in}
use Rattle.cdcl_theory.specs.Propagation.{IsFalsifiedUpTo}
use Rattle.cdcl_theory.specs.Trails.{HasReason, falsified_at, reason_of}
use Rattle.cdcl_theory.specs.TrailLaws.{reason_falsified}
use Rattle.clause_db.specs.Stored.{live_in}
use Rattle.conflict_core.proofs.Resolvents.{replaced_below}
use Rattle.conflict_core.proofs.resolution.Resolution.resolve_away.Goals as goal

pub overflow_sub-trail_index : goal.overflow_sub-trail_index
overflow_sub-trail_index c =
    let is : marked_in c.args.self.now.marks c.args.lit ≡ true = sym c.has.ensures ∙ c.if-not-has.false in
    let falsified : IsFalsifiedUpTo (falsified_at c.args.trail.now) (length c.args.trail.now.lits) c.args.lit = c.requires.resolution.resolvent.below c.args.lit is in
    let some : 0 < falsified_at c.args.trail.now c.args.lit = falsified.0 in
    let same : c.falsified_at.result ≡ falsified_at c.args.trail.now c.args.lit = c.falsified_at.ensures.value in
    omega arith

pub resolve-requires-clause-inside : goal.resolve-requires-clause-inside
resolve-requires-clause-inside c =
    let is : marked_in c.args.self.now.marks c.args.lit ≡ true = sym c.has.ensures ∙ c.if-not-has.false in
    let falsified : IsFalsifiedUpTo (falsified_at c.args.trail.now) (length c.args.trail.now.lits) c.args.lit = c.requires.resolution.resolvent.below c.args.lit is in
    let some : 0 < falsified_at c.args.trail.now c.args.lit = falsified.0 in
    let within : falsified_at c.args.trail.now c.args.lit ≤ length c.args.trail.now.lits = falsified.1 in
    let same : c.falsified_at.result ≡ falsified_at c.args.trail.now c.args.lit = c.falsified_at.ensures.value in
    omega arith

pub resolve-requires-clause-reason : goal.resolve-requires-clause-reason
resolve-requires-clause-reason c =
    let is : marked_in c.args.self.now.marks c.args.lit ≡ true = sym c.has.ensures ∙ c.if-not-has.false in
    let falsified : IsFalsifiedUpTo (falsified_at c.args.trail.now) (length c.args.trail.now.lits) c.args.lit = c.requires.resolution.resolvent.below c.args.lit is in
    let some : 0 < falsified_at c.args.trail.now c.args.lit = falsified.0 in
    let within : falsified_at c.args.trail.now c.args.lit ≤ length c.args.trail.now.lits = falsified.1 in
    let same : c.falsified_at.result ≡ falsified_at c.args.trail.now c.args.lit = c.falsified_at.ensures.value in
    let none : reason_of c.args.trail.now (opposite c.args.lit) ≡ 0 → ⊥ = λ e. c.if-reason-eq0.false (c.reason.ensures.value ∙ ap (reason_of c.args.trail.now) c.opposite.ensures.value ∙ e) in
    subst (λ (n : ℕ). HasReason (live_in c.args.clauses.now) c.args.trail.now (n - 1)) (sym same)
    (reason_falsified (live_in c.args.clauses.now) c.args.trail.now c.args.lit c.requires.explained some none)

pub returns-clause-below : goal.returns-clause-below
returns-clause-below c = on_ok_weaker c.resolve.result
    (replaced_below c.args.trail.now c.args.start (c.falsified_at.result - 1) c.args.self.now.marks
    c.resolve.new.self.marks c.if-trail_index-start.false) c.resolve.ensures.replaced
