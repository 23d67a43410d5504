use Rattle.std.proofs.Common.{◌≡◌, true}
use Rattle.cdcl_theory.specs.Codes.{marked_in}
use Rattle.cdcl_theory.specs.Trails.{TrailState, IsTrail}
use Rattle.clause_db.specs.Stored.{live_in}
use Rattle.conflict_core.specs.Markings.{AreFewer, HasRoom}
use Rattle.conflict_core.specs.Learning.{IsResolutionOf}
use Rattle.conflict_core.proofs.resolution.Resolution.minimise_with_binaries.Given as goal

abbrev pub invariant-loop-index : goal.invariant-loop-index
invariant-loop-index l = record {
  room : HasRoom l.clauses.vars l.self.marks;
  kept : marked_in l.self.marks l.first ≡ true;
  resolution : (t : TrailState) → IsTrail t → IsResolutionOf (live_in l.clauses) t l.initial.self → IsResolutionOf (live_in l.clauses) t l.self;
  fewer : AreFewer l.initial.self.marks l.self.marks;
}
