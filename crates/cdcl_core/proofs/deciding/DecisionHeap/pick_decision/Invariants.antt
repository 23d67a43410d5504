use Rattle.std.proofs.Common.{◌≡◌, count_by}
use Rattle.cdcl_core.specs.Deciding.{IsDecisionHeap}
use Rattle.cdcl_core.proofs.deciding.DecisionHeap.pick_decision.Given as goal

abbrev pub invariant-loop-variable : goal.invariant-loop-variable
invariant-loop-variable l = record {
  deciding : IsDecisionHeap l.trail l.self;
  scores : l.self.heap.scores ≡ l.initial.self.heap.scores;
}

abbrev pub decreases-loop-variable : goal.decreases-loop-variable
decreases-loop-variable l = count_by (λ b. b) l.self.heap.marks
