use Rattle.observe_core.specs.FollowingLaws.{walk_start, walk_reads, walk_more, walk_end, walk_rises}
use Rattle.observe_core.proofs.next_fanout.least_fanout.Goals as goal

pub loop-next-init : goal.loop-next-init
loop-next-init c = walk_start c.args.net.now c.args.gates.now c.args.node c.first_fanout-next.result c.first_fanout-next.ensures

pub fanout_after-next-requires-clause-reads : goal.fanout_after-next-requires-clause-reads
fanout_after-next-requires-clause-reads c = walk_reads c.args.net.now c.args.gates.now c.args.node c.loop-next.next (c.is_inside.ensures.some c.loop-next-test.true) c.loop-next.invariant

pub loop-next-smaller : goal.loop-next-smaller
loop-next-smaller c = walk_rises c.args.net.now c.args.gates.now c.args.node c.loop-next.next
    c.fanout_after-next.result (c.is_inside.ensures.some c.loop-next-test.true) c.fanout_after-next.ensures
    c.loop-next.invariant

pub loop-next-preserved : goal.loop-next-preserved
loop-next-preserved c =
    walk_more c.args.net.now c.args.gates.now c.args.node c.loop-next.next c.fanout_after-next.result
    (c.is_inside.ensures.some c.loop-next-test.true) (c.is_inside.ensures.inside c.loop-next-test.true)
    c.fanout_after-next.ensures c.loop-next.invariant

pub returns : goal.returns
returns c = walk_end c.args.net.now c.args.gates.now c.args.node c.loop-next.next (c.is_inside.ensures.outside c.loop-next-test.false) c.loop-next.invariant
