use Rattle.std.proofs.Common.{◌≡◌, ◌+◌, length}
use Rattle.cdcl_theory.specs.Trails.{IsTrail, IsBacktracked}
use Rattle.cdcl_core.specs.Deciding.{IsDecisionHeap}
use Rattle.cdcl_core.proofs.deciding.DecisionHeap.backtrack.Given as goal

abbrev pub invariant-loop-taken : goal.invariant-loop-taken
invariant-loop-taken l = record {
  long : length l.trail.lits + l._taken ≡ length l.initial.trail.lits + l.len;
  back : IsBacktracked (length l.trail.lits) l.initial.trail l.trail;
  whole : IsTrail l.trail;
  deciding : IsDecisionHeap l.trail l.self;
}
