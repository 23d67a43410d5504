use Rattle.std.proofs.Common.{◌≡◌, length}
use Rattle.clause_db.specs.Stored.{live_in}
use Rattle.conflict_core.specs.Markings.{OnlyBelow}
use Rattle.conflict_core.specs.Learning.{IsResolutionOf}
use Rattle.conflict_core.proofs.analysis.Analysis.minimise.Given as goal

abbrev pub invariant-loop-lit : goal.invariant-loop-lit
invariant-loop-lit l = record {
  resolution : IsResolutionOf (live_in l.clauses) l.trail l.self.resolution;
  below : OnlyBelow l.trail l.start l.initial.self.resolution.marks l.self.resolution.marks;
  room : length l.self.redundancy.verdicts.items ≡ length l.initial.self.redundancy.verdicts.items;
  marks : length l.self.resolution.marks ≡ length l.initial.self.resolution.marks;
}

abbrev pub decreases-loop-lit : goal.decreases-loop-lit
decreases-loop-lit l = length l.self.redundancy.redundant.items
