use Rattle.std.proofs.Common.{vec_len}
use Rattle.graph_core.proofs.components.ComponentSearch.close.Given as goal

abbrev pub decreases-loop-node : goal.decreases-loop-node
decreases-loop-node l = vec_len l.self.open
