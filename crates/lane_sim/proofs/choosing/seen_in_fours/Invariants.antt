use Rattle.std.proofs.Common.{◌*◌, length}
use Rattle.lane_sim.specs.Chosen.{chosen_at, AreChosenBelow}
use Rattle.lane_sim.specs.Seen.{pattern_at}
use Rattle.lane_sim.proofs.choosing.seen_in_fours.Given as goal

abbrev pub invariant-loop-block : goal.invariant-loop-block
invariant-loop-block l = AreChosenBelow (length l.operands) (pattern_at l.lanes l.operands) (chosen_at l.words l.chosen) l.rows (l.block * 4) l.found
