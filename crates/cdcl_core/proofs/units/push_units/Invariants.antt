use Rattle.cdcl_theory.specs.Trails.{IsTrail, IsGrown, falsified_at}
use Rattle.clause_db.specs.Stored.{live_in}
use Rattle.cdcl_core.proofs.UnitClauses.{AreUnitsTrue}
use Rattle.cdcl_core.proofs.units.push_units.Given as goal

abbrev pub invariant-loop-index : goal.invariant-loop-index
invariant-loop-index l = record {
  whole : IsTrail l.trail;
  grown : IsGrown (live_in l.clauses) l.initial.trail l.trail;
  units : AreUnitsTrue (live_in l.clauses) (falsified_at l.trail) l.index;
}
