use Rattle.std.proofs.Common.{◌≡◌, length}
use Rattle.clause_db.specs.Stored.{live_in}
use Rattle.conflict_core.specs.Markings.{IsLastMarked}
use Rattle.conflict_core.specs.Learning.{IsResolutionOf}
use Rattle.conflict_core.proofs.resolution.Resolution.resolve_to_uip.Given as goal

abbrev pub invariant-loop-other : goal.invariant-loop-other
invariant-loop-other l = record {
  resolution : IsResolutionOf (live_in l.clauses) l.trail l.self;
  last : IsLastMarked l.trail l.self.marks l.start (length l.trail.lits) l.top;
  room : length l.self.marks ≡ length l.initial.self.marks;
}

abbrev pub decreases-loop-other : goal.decreases-loop-other
decreases-loop-other l = l.top
