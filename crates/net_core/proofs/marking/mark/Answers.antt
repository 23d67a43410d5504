use Rattle.net_core.proofs.DanglingGates.{set_of-mark}
use Rattle.net_core.proofs.marking.mark.Goals as goal

pub returns-in-Node : goal.returns-in-Node
returns-in-Node c = set_of-mark c.args.marks.now c.in-Node.node c.args.sig c.in-Node.is (rw c.in-Node.is at c.requires).1
