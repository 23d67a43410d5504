use Rattle.std.proofs.Common.{length}
use Rattle.lane_sim.proofs.showing.+seen.Given as goal

abbrev pub decreases-seen : goal.decreases-seen
decreases-seen l = length l.operands.now
