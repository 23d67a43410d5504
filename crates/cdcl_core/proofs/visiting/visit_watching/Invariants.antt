use Rattle.std.proofs.Common.{◌<◌, ◌≤◌, ◌-◌, ℕ, length}
use Rattle.cdcl_theory.specs.Trails.{IsTrail, falsified_at}
use Rattle.clause_db.specs.Watching.{list_of}
use Rattle.clause_db.specs.Stored.{IsStored}
use Rattle.cdcl_core.specs.WatchInvariant.{HasTrueAt}
use Rattle.cdcl_core.specs.Visiting.{id_at, IsRest}
use Rattle.cdcl_core.proofs.visiting.visit_watching.Given as goal

abbrev pub invariant-loop-next : goal.invariant-loop-next
invariant-loop-next l = record {
  whole : IsTrail l.trail;
  stored : IsStored l.clauses;
  rest : IsRest l.initial.clauses l.clauses l.initial.trail l.trail;
  visited : (k : ℕ) → k < l.index → HasTrueAt l.clauses (falsified_at l.trail) (id_at l.clauses l.falsified k);
  inside : l.index ≤ length (list_of l.clauses.watches l.falsified);
}

abbrev pub decreases-loop-next : goal.decreases-loop-next
decreases-loop-next l = length (list_of l.clauses.watches l.falsified) - l.index
