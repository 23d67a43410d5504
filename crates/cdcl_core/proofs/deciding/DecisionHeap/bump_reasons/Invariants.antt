use Rattle.cdcl_theory.specs.Trails.{TrailState}
use Rattle.cdcl_core.specs.Deciding.{IsDecisionHeap}
use Rattle.cdcl_core.proofs.deciding.DecisionHeap.bump_reasons.Given as goal

abbrev pub invariant-loop-lit : goal.invariant-loop-lit
invariant-loop-lit l = (t : TrailState) → IsDecisionHeap t l.initial.self → IsDecisionHeap t l.self
