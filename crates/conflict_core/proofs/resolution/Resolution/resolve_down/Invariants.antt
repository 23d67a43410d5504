use Rattle.std.proofs.Common.{◌≡◌, ◌≤◌, length}
use Rattle.clause_db.specs.Stored.{live_in}
use Rattle.conflict_core.specs.Markings.{NoneMarked, StayBelow}
use Rattle.conflict_core.specs.Learning.{IsResolutionOf}
use Rattle.conflict_core.proofs.resolution.Resolution.resolve_down.Given as goal

abbrev pub invariant-loop-trail_index : goal.invariant-loop-trail_index
invariant-loop-trail_index l = record {
  above : l.low ≤ l.trail_index;
  below : l.trail_index ≤ l.high;
  resolution : IsResolutionOf (live_in l.clauses) l.trail l.self;
  none : NoneMarked l.trail l.self.marks l.trail_index (length l.trail.lits);
  others : StayBelow l.trail l.low l.initial.self.marks l.self.marks;
  room : length l.self.marks ≡ length l.initial.self.marks;
}

abbrev pub decreases-loop-trail_index : goal.decreases-loop-trail_index
decreases-loop-trail_index l = l.trail_index
