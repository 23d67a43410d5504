use Rattle.std.proofs.Common.{◌↔◌, length}
use Rattle.sat_theory.specs.Plain.{live_in}
use Rattle.sat_theory.specs.Holding.{DeletionHolds}
use Rattle.sat_theory.proofs.plain.are_live.Given as goal

abbrev pub invariant-loop-id : goal.invariant-loop-id
invariant-loop-id l = DeletionHolds (live_in l.clauses) l.left ↔ DeletionHolds (live_in l.clauses) l.ids

abbrev pub decreases-loop-id : goal.decreases-loop-id
decreases-loop-id l = length l.left
