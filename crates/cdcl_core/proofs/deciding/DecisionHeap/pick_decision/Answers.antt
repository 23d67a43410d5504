use Rattle.std.proofs.Common.{refl, arith}
use Rattle.trail_core.specs.Values.{IsOver}
use Rattle.cdcl_core.proofs.Decisions.{choosing_decided}
use Rattle.cdcl_core.proofs.deciding.DecisionHeap.pick_decision.Goals as goal

pub returns-then-is_free-clause-deciding : goal.returns-then-is_free-clause-deciding
returns-then-is_free-clause-deciding c = λ reason.
    let v = c.in-Some.ensures.greatest.variable in
    let over : IsOver c.args.trail.now.vars c.of-lit.result = rw c.of-lit.ensures.variable (v.0, omega (arith, v.1, c.loop-variable.invariant.deciding.vars)) in
    choosing_decided c.args.trail.now c.loop-variable.self _ c.of-lit.result c.in-Some.variable reason c.requires.whole
    c.loop-variable.invariant.deciding c.of-lit.ensures.variable over
    (c.is_free.ensures.0 c.if-is_free.true) c.in-Some.ensures.taken refl
