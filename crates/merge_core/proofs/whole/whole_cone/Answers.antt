use Rattle.merge_core.specs.WholeLaws.{cone_whole}
use Rattle.merge_core.proofs.whole.whole_cone.Goals as goal

pub new-requires : goal.new-requires
new-requires c = cone_whole c.args.net.now c.sources.result c.in_ok-leaves.leaves.items c.in_ok-gates.gates.items
    c.sources.ensures.net c.requires c.sources.ensures.sources c.in_ok-leaves.ensures c.in_ok-gates.ensures
