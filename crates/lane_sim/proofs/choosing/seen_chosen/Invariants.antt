use Rattle.std.proofs.Common.{length}
use Rattle.lane_sim.specs.Chosen.{chosen_at, AreChosenBelow}
use Rattle.lane_sim.specs.Seen.{pattern_at}
use Rattle.lane_sim.proofs.choosing.seen_chosen.Given as goal

abbrev pub invariant-loop-j : goal.invariant-loop-j
invariant-loop-j l = AreChosenBelow (length l.operands) (pattern_at l.lanes l.operands) (chosen_at l.words l.chosen) l.rows l.j l.found
