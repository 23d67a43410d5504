use Rattle.std.proofs.Common.{refl}
use Rattle.net_core.specs.Marks.{nodes_of}
use Rattle.net_core.proofs.keeping.moved.Goals as goal

pub returns-in-Node : goal.returns-in-Node
unfolding nodes_of
returns-in-Node c = rw c.in-Node.is refl
