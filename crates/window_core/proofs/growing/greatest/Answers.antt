use Rattle.window_core.specs.GrowingLaws.{sought_more}
use Rattle.window_core.proofs.growing.greatest.Goals as goal

pub loop-node-preserved : goal.loop-node-preserved
loop-node-preserved c =
    sought_more c.args.net.now c.args.root c.args.partner c.args.taken.now c.args.bound c.loop-node.left.now
    c.in-Some.node.now c.in-Some.rest.now c.gate_at-gate.result.now c.loop-node.best c.greater_sig-first.result
    c.greater_sig-best.result
    c.in-Some.ensures.cases.0 c.gate_at-gate.ensures.gate c.greater_sig-first.ensures c.greater_sig-best.ensures c.loop-node.invariant
