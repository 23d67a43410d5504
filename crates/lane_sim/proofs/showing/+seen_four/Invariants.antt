use Rattle.std.proofs.Common.{length}
use Rattle.lane_sim.proofs.showing.+seen_four.Given as goal

abbrev pub decreases-seen_four : goal.decreases-seen_four
decreases-seen_four l = length l.operands.now
