use Rattle.std.proofs.Common.{◌≤◌}
use Rattle.conflict_core.specs.Markings.{NoneMarked}
use Rattle.conflict_core.proofs.resolution.Resolution.last_marked.Given as goal

abbrev pub invariant-loop-trail_index : goal.invariant-loop-trail_index
invariant-loop-trail_index l = record {
  below : l.trail_index ≤ l.high;
  none : NoneMarked l.trail l.self.marks l.trail_index l.high;
}

abbrev pub decreases-loop-trail_index : goal.decreases-loop-trail_index
decreases-loop-trail_index l = l.trail_index
