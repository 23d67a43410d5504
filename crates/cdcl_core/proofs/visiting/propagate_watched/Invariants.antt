use Rattle.std.proofs.Common.{◌≤◌, ◌+◌, ◌*◌, ◌-◌, ℕ, List, All, length}
use Rattle.cdcl_theory.specs.Trails.{IsTrail, falsified_at}
use Rattle.clause_db.specs.Stored.{IsStored}
use Rattle.cdcl_core.specs.WatchInvariant.{KeepsWatchInvariant}
use Rattle.cdcl_core.specs.Visiting.{IsRest}
use Rattle.cdcl_core.proofs.visiting.propagate_watched.Given as goal

abbrev pub invariant-loop-head : goal.invariant-loop-head
invariant-loop-head l = record {
  whole : IsTrail l.trail;
  stored : IsStored l.clauses;
  rest : IsRest l.initial.clauses l.clauses l.initial.trail l.trail;
  low : l.from ≤ l.head;
  high : l.head ≤ length l.trail.lits;
  guarded : (starts : List ℕ) → All (λ s. s ≤ l.from) starts →
      KeepsWatchInvariant l.initial.clauses (falsified_at l.initial.trail) starts l.from →
      KeepsWatchInvariant l.clauses (falsified_at l.trail) starts l.head;
}

abbrev pub decreases-loop-head : goal.decreases-loop-head
decreases-loop-head l = 2 * l.initial.trail.vars + 2 - l.head
