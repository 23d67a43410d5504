use Rattle.std.proofs.Common.{◌≡◌}
use Rattle.cdcl_theory.specs.Trails.{TrailState}
use Rattle.cdcl_core.specs.Deciding.{IsDecisionHeap}
use Rattle.cdcl_core.proofs.deciding.DecisionHeap.add.Given as goal

abbrev pub invariant-loop-lit : goal.invariant-loop-lit
invariant-loop-lit l = record {
  vars : l.self.heap.vars ≡ l.initial.self.heap.vars;
  kept : (t : TrailState) → IsDecisionHeap t l.initial.self → IsDecisionHeap t l.self;
}
