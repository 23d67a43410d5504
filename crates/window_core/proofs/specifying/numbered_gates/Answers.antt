use Rattle.window_core.specs.MaskingLaws.{numbered_more}
use Rattle.window_core.proofs.specifying.numbered_gates.Goals as goal

pub loop-node-preserved : goal.loop-node-preserved
loop-node-preserved c =
    numbered_more c.args.net.now c.args.nodes.now c.loop-node.left.now c.in-Some.node.now c.in-Some.rest.now
    c.gate_at-gate.result.now c.loop-node.gates.items c.push.new.self.items c.in-Some.ensures.cases.0
    c.gate_at-gate.ensures.gate c.in_ok-push.ensures.items c.loop-node.invariant
