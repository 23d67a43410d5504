use Rattle.std.proofs.Common.{ℕ, ◌<◌, ◌^◌, List, ◌∷◌, arith, length, ap, sym, subst}
use Rattle.net_theory.specs.declared.data.Gate.{Gate}
use Rattle.lane_sim.specs.Above.{with_gates, AreDone}
use Rattle.lane_sim.specs.AboveLaws.{kept_code, next_operand, next_ends, done_more}
use Rattle.lane_sim.specs.LaneLaws.{gate_over}
use Rattle.lane_sim.proofs.above.simulate_rest.Goals as goal

pub loop-first-init : goal.loop-first-init
loop-first-init c =
    let cone = c.args.cone.now in
    let above = c.args.above.now in
    let kept = kept_code cone c.args.width (length c.leaves.result.now) (length c.gates.result.now) c.args.lanes.now.items
    c.truncate.new.self.items (ap (length {A = ℕ}) c.leaves.ensures.value) (ap (length {A = ℕ × Gate}) c.gates.ensures.value) c.truncate.ensures.items in
    subst (λ (ls : List ℕ). AreDone (with_gates cone above) c.args.width ls above) (sym kept) c.requires.base

pub push_row-requires-clause-first : goal.push_row-requires-clause-first
push_row-requires-clause-first c =
    let whole = with_gates c.args.cone.now c.args.above.now in
    let rows = 2 ^ length c.args.cone.now.leaves in
    let ls = c.loop-first.lanes.items in
    let x = c.in-Some.first.now in
    let rest = c.in-Some.rest.now in
    let done : AreDone whole c.args.width ls (x ∷ rest) = subst (AreDone whole c.args.width ls) c.in-Some.ensures.cases.0 c.loop-first.invariant in
    next_ends whole c.args.width rows done.0 ls (x ∷ rest) x.1.a c.operand-a.result done.1
    (next_operand whole c.args.width rows done.0 ls c.args.nodes.now.keys x rest x.1.a c.operand-a.result done.1
    c.requires.nodes (omega (arith, c.loop-first.lanes.ok.0))
    (gate_over whole c.args.width rows done.0 ls x rest c.requires.cone done.1).first c.operand-a.ensures)

pub push_row-requires-clause-second : goal.push_row-requires-clause-second
push_row-requires-clause-second c =
    let whole = with_gates c.args.cone.now c.args.above.now in
    let rows = 2 ^ length c.args.cone.now.leaves in
    let ls = c.loop-first.lanes.items in
    let x = c.in-Some.first.now in
    let rest = c.in-Some.rest.now in
    let done : AreDone whole c.args.width ls (x ∷ rest) = subst (AreDone whole c.args.width ls) c.in-Some.ensures.cases.0 c.loop-first.invariant in
    next_ends whole c.args.width rows done.0 ls (x ∷ rest) x.1.b c.operand-b.result done.1
    (next_operand whole c.args.width rows done.0 ls c.args.nodes.now.keys x rest x.1.b c.operand-b.result done.1
    c.requires.nodes (omega (arith, c.loop-first.lanes.ok.0))
    (gate_over whole c.args.width rows done.0 ls x rest c.requires.cone done.1).second c.operand-b.ensures)

pub loop-first-preserved : goal.loop-first-preserved
loop-first-preserved c =
    let whole = with_gates c.args.cone.now c.args.above.now in
    let rows = 2 ^ length c.args.cone.now.leaves in
    let ls = c.loop-first.lanes.items in
    let x = c.in-Some.first.now in
    let rest = c.in-Some.rest.now in
    let done : AreDone whole c.args.width ls (x ∷ rest) = subst (AreDone whole c.args.width ls) c.in-Some.ensures.cases.0 c.loop-first.invariant in
    let over = gate_over whole c.args.width rows done.0 ls x rest c.requires.cone done.1 in
    let small : length ls < 2 ^ 64 = omega (arith, c.loop-first.lanes.ok.0) in
    done_more whole c.args.width rows done.0 ls x rest c.push_row.new.lanes.items c.operand-a.result c.operand-b.result c.requires.rows c.requires.cone done.1
    (next_operand whole c.args.width rows done.0 ls c.args.nodes.now.keys x rest x.1.a c.operand-a.result done.1 c.requires.nodes small over.first c.operand-a.ensures)
    (next_operand whole c.args.width rows done.0 ls c.args.nodes.now.keys x rest x.1.b c.operand-b.result done.1 c.requires.nodes small over.second c.operand-b.ensures)
    c.in_ok-push_row.ensures
