use Rattle.lane_sim.specs.AboveLaws.{noted}
use Rattle.lane_sim.proofs.above.note.Goals as goal

pub loop-node-preserved : goal.loop-node-preserved
loop-node-preserved c =
    noted c.args.nodes.now.keys c.loop-node.nodes.keys c.insert.new.self.keys c.in-Some.node.now c.loop-node.left.now
    c.in-Some.rest.now c.args.more.now c.requires c.in-Some.ensures.cases.0 c.loop-node.invariant
    c.in_ok-insert.ensures.keys
