use Rattle.std.proofs.Common.{◌≡◌, length}
use Rattle.lane_sim.specs.Cone.{nodes}
use Rattle.lane_sim.specs.Seen.{AreOperands}
use Rattle.lane_sim.proofs.showing.fill_operands.Given as goal

abbrev pub invariant-loop-i : goal.invariant-loop-i
invariant-loop-i l = AreOperands (nodes l.cone) l.width l.signals l.i l.operands × (length l.operands ≡ length l.initial.operands)
