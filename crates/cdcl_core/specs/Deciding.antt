-- Which variables a search can still decide.
use Rattle.std.specs.Prelude.{◌≡◌, ℕ, ◌+◌, ◌<◌, ◌≤◌, ℤ, length}
use Rattle.sat_theory.specs.Formula.{variable}
use Rattle.cdcl_theory.specs.Trails.{TrailState}
use Rattle.trail_core.specs.Values.{IsOver, IsFree}
use Rattle.var_heap.specs.Held.{IsHeld}
use Rattle.cdcl_core.specs.declared.deciding.DecisionHeap.{DecisionHeap}

-- The heap holds each variable without a value, and the tables have room for all variables.
-- Example: on the trail 2, -1 over three variables, 3 has to be held, and 1 and 2 may be.
pub record IsDecisionHeap (t : TrailState) (c : DecisionHeap) : Type 0 where
  pub vars : c.heap.vars ≡ t.vars
  pub room : (v : ℕ) → 0 < v → v ≤ t.vars → v < length c.heap.marks
  pub phases : length c.phases.items ≡ t.vars + 1
  pub held : (l : ℤ) → IsOver t.vars l → IsFree t l → IsHeld c.heap (variable l)
