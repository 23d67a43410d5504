use Rattle.observe_core.specs.FollowingLaws.{sought_start, sought_inside, sought_more, sought_end}
use Rattle.observe_core.proofs.next_fanout.next_follower.Goals as goal

pub loop-node-init : goal.loop-node-init
loop-node-init c = sought_start c.args.net.now c.args.gates.now

pub least_fanout-requires-clause-node : goal.least_fanout-requires-clause-node
least_fanout-requires-clause-node c =
    c.requires.gates c.in-Some.node.now (sought_inside c.args.net.now c.args.gates.now c.loop-node.left.now
    c.in-Some.node.now c.in-Some.rest.now c.loop-node.best c.in-Some.ensures.cases.0 c.loop-node.invariant)

pub loop-node-preserved : goal.loop-node-preserved
loop-node-preserved c =
    sought_more c.args.net.now c.args.gates.now c.loop-node.left.now c.in-Some.node.now c.in-Some.rest.now
    c.loop-node.best c.least_fanout.result c.lesser-best.result c.in-Some.ensures.cases.0 c.least_fanout.ensures
    c.lesser-best.ensures c.loop-node.invariant

pub returns : goal.returns
returns c = sought_end c.args.net.now c.args.gates.now c.loop-node.left.now c.loop-node.best c.in_default.ensures.cases c.loop-node.invariant
