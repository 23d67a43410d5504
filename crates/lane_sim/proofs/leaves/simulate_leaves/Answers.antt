use Rattle.std.proofs.Common.{◌≡◌, ◌∙◌, ℕ, List, [], ◌∷◌, ◌++◌, length, sym, subst}
use Rattle.chain_theory.specs.Operator.{digit}
use Rattle.lane_sim.specs.Rows.{AreLeaves, IsRowAppended}
use Rattle.lane_sim.specs.LaneLaws.{leaves_none, leaf_new, leaves_more, with_new}
use Rattle.lane_sim.proofs.leaves.simulate_leaves.Goals as goal

pub loop-node-init : goal.loop-node-init
loop-node-init c =
    subst (AreLeaves c.args.cone.now c.args.width c.args.nodes.now.keys c.args.lanes.now.items) (sym c.leaves-left.ensures.value)
    (leaves_none c.args.cone.now c.args.width c.args.nodes.now.keys c.args.lanes.now.items c.requires.nodes c.requires.lanes)

pub loop-node-preserved : goal.loop-node-preserved
loop-node-preserved c =
    let whole : AreLeaves c.args.cone.now c.args.width c.loop-node.nodes.keys c.loop-node.lanes.items (c.in-Some.node.now ∷ c.in-Some.rest.now) =
    subst (AreLeaves c.args.cone.now c.args.width c.loop-node.nodes.keys c.loop-node.lanes.items) c.in-Some.ensures.cases.0 c.loop-node.invariant in
    let keys : c.insert.new.self.keys ≡ c.loop-node.nodes.keys ++ c.in-Some.node.now ∷ [] =
    c.in_ok-insert.ensures.keys ∙ with_new c.loop-node.nodes.keys c.in-Some.node.now
    (leaf_new c.args.cone.now c.args.width c.loop-node.nodes.keys c.loop-node.lanes.items c.in-Some.node.now
    c.in-Some.rest.now c.leaves-left.ensures.whole whole) in
    let put : IsRowAppended (λ row. digit row (length c.in-Some.rest.now)) c.args.width c.loop-node.lanes.items c.push_leaf.new.lanes.items = c.in_ok-push_leaf.ensures in
    subst (λ (ks : List ℕ). AreLeaves c.args.cone.now c.args.width ks c.push_leaf.new.lanes.items c.in-Some.rest.now) (sym keys)
    (leaves_more c.args.cone.now c.args.width c.loop-node.nodes.keys c.loop-node.lanes.items c.in-Some.node.now c.in-Some.rest.now c.push_leaf.new.lanes.items c.leaves-left.ensures.whole whole put)
