use Rattle.std.proofs.Common.{◌≤◌, ◌<◌, take, All}
use Rattle.cdcl_theory.specs.Trails.{falsified_at}
use Rattle.conflict_core.specs.Markings.{HasFalsifiedAt}
use Rattle.conflict_core.proofs.analysis.last_falsified.Given as goal

abbrev pub invariant-loop-lit : goal.invariant-loop-lit
invariant-loop-lit l = record {
  all : All (λ m. falsified_at l.trail m ≤ l.back) (take l.lit-index l.lits);
  there : 0 < l.back → HasFalsifiedAt (falsified_at l.trail) (take l.lit-index l.lits) l.back;
}
