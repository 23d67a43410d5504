use Rattle.observe_core.specs.PuttingLaws.{put_start, put_more}
use Rattle.observe_core.proofs.with_constants.put_fanout_cone.Goals as goal

pub loop-node-init : goal.loop-node-init
loop-node-init c = put_start c.args.net.now c.args.outputs.now c.args.bits c.args.fanout_cone.now c.args.gates.now.items

pub loop-node-preserved : goal.loop-node-preserved
loop-node-preserved c =
    put_more c.args.net.now c.args.outputs.now c.args.bits c.args.fanout_cone.now c.loop-node.left.now
    c.in-Some.node.now c.in-Some.rest.now c.args.gates.now.items c.loop-node.gates.items c.push.new.self.items
    c.put_gate.result
    c.in-Some.ensures.cases.0 c.put_gate.ensures c.in_ok-push.ensures.items c.loop-node.invariant
