use Rattle.std.proofs.lemmas.Bool.{both_ways}
use Rattle.window_theory.specs.Window.{IsReadBy}
use Rattle.observe_core.specs.KeptLaws.{kept_start, kept_on, kept_off}
use Rattle.observe_core.proofs.fanout_cones.nodes_read.Goals as goal

pub loop-node-init : goal.loop-node-init
loop-node-init c = kept_start (IsReadBy c.args.net.now c.args.gates.now) c.args.nodes.now c.new-kept.result.items c.requires.rising c.new-kept.ensures.items

pub loop-node-preserved-then-is_read_by : goal.loop-node-preserved-then-is_read_by
loop-node-preserved-then-is_read_by c =
    kept_on (IsReadBy c.args.net.now c.args.gates.now) c.args.nodes.now c.loop-node.left.now c.in-Some.node.now
    c.in-Some.rest.now c.loop-node.kept.items c.push.new.self.items c.in-Some.ensures.cases.0
    (c.is_read_by.ensures.yes c.if-is_read_by.true) c.in_ok-push.ensures.items c.loop-node.invariant

pub loop-node-preserved : goal.loop-node-preserved
loop-node-preserved c =
    kept_off (IsReadBy c.args.net.now c.args.gates.now) c.args.nodes.now c.loop-node.left.now c.in-Some.node.now c.in-Some.rest.now c.loop-node.kept.items c.in-Some.ensures.cases.0
    (λ is. both_ways c.is_read_by.result c.if-is_read_by.false (c.is_read_by.ensures.no is)) c.loop-node.invariant
