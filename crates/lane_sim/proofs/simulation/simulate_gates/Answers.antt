use Rattle.std.proofs.Common.{◌≡◌, ◌∙◌, ◌*◌, ℕ, arith, List, [], ◌∷◌, ◌++◌, sym, subst}
use Rattle.lane_sim.specs.Rows.{AreGatesOf}
use Rattle.lane_sim.specs.LaneLaws.{gates_none, gate_over, gates_more, gate_new, with_new}
use Rattle.lane_sim.proofs.simulation.simulate_gates.Goals as goal

pub loop-first-init : goal.loop-first-init
loop-first-init c =
    subst (AreGatesOf c.args.cone.now c.args.width (64 * c.args.width) c.args.nodes.now.keys c.args.lanes.now.items) (sym c.gates-left.ensures.value)
    (gates_none c.args.cone.now c.args.width c.args.nodes.now.keys c.args.lanes.now.items c.requires.leaves)

pub push_gate-requires-clause-known : goal.push_gate-requires-clause-known
push_gate-requires-clause-known c =
    gate_over c.args.cone.now c.args.width (64 * c.args.width) c.loop-first.nodes.keys c.loop-first.lanes.items c.in-Some.first.now c.in-Some.rest.now c.gates-left.ensures.whole
    (subst (AreGatesOf c.args.cone.now c.args.width (64 * c.args.width) c.loop-first.nodes.keys c.loop-first.lanes.items) c.in-Some.ensures.cases.0 c.loop-first.invariant)

pub loop-first-preserved : goal.loop-first-preserved
loop-first-preserved c =
    let whole : AreGatesOf c.args.cone.now c.args.width (64 * c.args.width) c.loop-first.nodes.keys c.loop-first.lanes.items (c.in-Some.first.now ∷ c.in-Some.rest.now) =
    subst (AreGatesOf c.args.cone.now c.args.width (64 * c.args.width) c.loop-first.nodes.keys c.loop-first.lanes.items) c.in-Some.ensures.cases.0 c.loop-first.invariant in
    let keys : c.insert.new.self.keys ≡ c.loop-first.nodes.keys ++ c.in-Some.first.now.0 ∷ [] =
    c.in_ok-insert.ensures.keys ∙ with_new c.loop-first.nodes.keys c.in-Some.first.now.0
    (gate_new c.args.cone.now c.args.width (64 * c.args.width) c.loop-first.nodes.keys c.loop-first.lanes.items
    c.in-Some.first.now c.in-Some.rest.now c.gates-left.ensures.whole whole) in
    subst (λ (ks : List ℕ). AreGatesOf c.args.cone.now c.args.width (64 * c.args.width) ks c.push_gate.new.lanes.items c.in-Some.rest.now) (sym keys)
    (gates_more c.args.cone.now c.args.width (64 * c.args.width) c.loop-first.nodes.keys c.loop-first.lanes.items
    c.in-Some.first.now c.in-Some.rest.now c.push_gate.new.lanes.items (omega arith) c.gates-left.ensures.whole whole
    c.in_ok-push_gate.ensures)
