use Rattle.std.proofs.Common.{arith}
use Rattle.merge_core.specs.RepresentativeLaws.{words_more}
use Rattle.merge_core.proofs.representatives.all_representatives.Goals as goal

pub loop-node-preserved : goal.loop-node-preserved
loop-node-preserved c =
    words_more c.args.lanes.now c.args.width c.loop-node.node c.loop-node.representatives.items
    c.push-in-loop-node.new.self.items c.in_ok-representative_of.field-0 c.loop-node.invariant
    c.in_ok-representative_of.ensures (omega (arith, c.loop-node.auto.node)) c.in_ok-push-2.ensures.items
