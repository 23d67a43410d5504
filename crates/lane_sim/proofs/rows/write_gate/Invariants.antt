use Rattle.std.proofs.Common.{◌-◌, ◌≤◌}
use Rattle.lane_sim.specs.Rows.{IsGateRowWritten}
use Rattle.lane_sim.proofs.rows.write_gate.Given as goal

abbrev pub invariant-loop-j : goal.invariant-loop-j
invariant-loop-j l = IsGateRowWritten l.masks l.a l.b l.start l.j l.initial.lanes l.lanes × (l.j ≤ l.width)

abbrev pub decreases-loop-j : goal.decreases-loop-j
decreases-loop-j l = l.width - l.j

abbrev pub invariant-loop-j-2 : goal.invariant-loop-j-2
invariant-loop-j-2 l = IsGateRowWritten l.masks l.a l.b l.start l.j l.initial.lanes l.lanes × (l.j ≤ l.width)

abbrev pub decreases-loop-j-2 : goal.decreases-loop-j-2
decreases-loop-j-2 l = l.width - l.j
