use Rattle.window_core.specs.ExpandingLaws.{new_code}
use Rattle.window_core.proofs.fanin_cones.is_new.Goals as goal

pub returns-in-Node : goal.returns-in-Node
returns-in-Node c = new_code c.args.sig c.in-Node.node c.args.nodes.now c.has.result c.in-Node.is c.requires c.has.ensures
