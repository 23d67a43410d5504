use Rattle.std.proofs.Common.{◌≡◌, ◌∙◌, ◌++◌, ℕ, true, List, ap, sym, subst}
use Rattle.std.specs.Prelude.{reverse}
use Rattle.lane_sim.specs.Cone.{Cone}
use Rattle.window_theory.specs.Nodes.{among}
use Rattle.window_theory.specs.FaninCone.{ExpandsTo}
use Rattle.net_theory.specs.declared.data.Gate.{Gate}
use Rattle.window_core.specs.Expanding.{IsInFanin, gate_nodes}
use Rattle.window_core.specs.ExpandingLaws.{fanin_cone_start, fanin_cone_more, fanin_cone_last, top_falls}
use Rattle.window_core.proofs.fanin_cones.fanin_cone.Goals as goal

pub loop-gates-init : goal.loop-gates-init
loop-gates-init c =
    fanin_cone_start c.args.net.now c.args.nodes.now c.extend_from_slice.new.self.items c.in_ok-gates.gates.items c.requires.rising c.requires.few c.requires.within
    (c.in_ok-extend_from_slice.ensures.items ∙ ap (λ (xs : List ℕ). xs ++ c.args.nodes.now) c.in_ok-leaves.ensures.items) c.in_ok-gates.ensures.items

pub loop-gates-smaller : goal.loop-gates-smaller
loop-gates-smaller c =
    top_falls c.args.net.now c.loop-gates.leaves.items c.expand.new.leaves.items c.loop-gates.gates.items
    c.expand.new.gates.items c.sources-sources.ensures.net c.loop-gates.invariant.above.leaves_rising
    (c.in_ok-expand.ensures.expanded c.if-branch.true)

pub loop-gates-preserved : goal.loop-gates-preserved
loop-gates-preserved c =
    fanin_cone_more c.args.net.now c.args.nodes.now c.loop-gates.leaves.items c.expand.new.leaves.items
    c.loop-gates.gates.items c.expand.new.gates.items c.sources-sources.ensures.net
    (c.in_ok-expand.ensures.expanded c.if-branch.true) c.loop-gates.invariant

pub returns-clause-leaves : goal.returns-clause-leaves
returns-clause-leaves c =
    let same : c.cone_of.result.leaves ≡ c.loop-gates.leaves.items = ap (λ (x : Cone). x.leaves) c.cone_of.ensures ∙ c.in_ok-expand.ensures.leaves c.if-branch.false in
    subst (ExpandsTo c.args.net.now c.args.nodes.now) (sym same)
    (fanin_cone_last c.args.net.now c.args.nodes.now c.loop-gates.leaves.items
    (reverse c.loop-gates.gates.items) c.loop-gates.invariant (c.in_ok-expand.ensures.last c.if-branch.false))

pub returns-clause-in_fanin : goal.returns-clause-in_fanin
returns-clause-in_fanin c =
    let same : c.cone_of.result.gates ≡ reverse c.loop-gates.gates.items = ap (λ (x : Cone). x.gates) c.cone_of.ensures
    ∙ ap (λ (gs : List (ℕ × Gate)). reverse gs) (c.in_ok-expand.ensures.gates c.if-branch.false) in
    subst (λ (gs : List (ℕ × Gate)). (p : ℕ) → among (gate_nodes gs) p ≡ true → IsInFanin c.args.net.now c.args.nodes.now p) (sym same) c.loop-gates.invariant.gates_in_fanin
