use Rattle.std.proofs.Common.{◌≡◌, ◌<◌, ◌∙◌, ℕ, ℤ, IsSome, ap, sym, subst}
use Rattle.sat_theory.specs.Formula.{opposite, IsWithin}
use Rattle.cdcl_theory.specs.Trails.{falsified_at, reason_of}
use Rattle.cdcl_theory.specs.TrailLaws.{live_falsified}
use Rattle.clause_db.specs.Stored.{live_in}
use Rattle.cdcl_core.specs.Deciding.{IsDecisionHeap}
use Rattle.cdcl_core.proofs.deciding.DecisionHeap.bump_reasons.Goals as goal

pub arranged-requires : goal.arranged-requires
arranged-requires c =
    let t = c.args.trail.now in
    let l : ℤ = c.lit-item.result in
    let down : 0 < falsified_at t l = subst (λ (x : ℤ). 0 < falsified_at t x) (sym c.lit-item.is) (c.requires.falsified c.loop-lit.lit-index l c.loop-lit-test.true) in
    let at : c.reason-id.result ≡ reason_of t (opposite l) = c.reason-id.ensures.value ∙ ap (reason_of t) c.opposite.ensures.value in
    record { live = subst (λ (k : ℕ). IsSome (live_in c.args.clauses.now k)) (sym at) (live_falsified (live_in c.args.clauses.now) t l c.requires.explained down (λ e. c.if-id-eq0.false (at ∙ e))) }

pub add-requires : goal.add-requires
add-requires c =
    let deciding : IsDecisionHeap c.args.trail.now c.loop-lit.self = c.loop-lit.invariant c.args.trail.now c.requires.deciding in
    subst (λ (n : ℕ). IsWithin n c.arranged.result.now) (c.requires.vars ∙ sym deciding.vars) c.arranged.ensures.over

pub loop-lit-preserved : goal.loop-lit-preserved
loop-lit-preserved c = λ t before. c.add.ensures t (c.loop-lit.invariant t before)
