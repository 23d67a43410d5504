use Rattle.std.proofs.Common.{◌+◌, ◌*◌, length}
use Rattle.net_theory.proofs.plain.+values.Given as goal

abbrev pub decreases-node_value : goal.decreases-node_value
decreases-node_value l = 2 * length l.gates.now

abbrev pub decreases-sig_value : goal.decreases-sig_value
decreases-sig_value l = 2 * length l.gates.now + 1
