use Rattle.std.proofs.Common.{◌≡◌, ◌≤◌}
use Rattle.bound_core.specs.Counts.{count_below}
use Rattle.step_core.specs.Pruning.{is_due}
use Rattle.step_core.proofs.pruning.due.Given as goal

abbrev pub invariant-loop-output : goal.invariant-loop-output
invariant-loop-output l = record {
  count : l.count ≡ count_below (is_due l.spec l.stack.steps) l.output;
  few : l.count ≤ l.output;
}
