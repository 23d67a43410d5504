use Rattle.std.proofs.Common.{◌≡◌, ◌≤◌}
use Rattle.bound_core.specs.Counts.{count_below}
use Rattle.step_core.specs.Waits.{waits}
use Rattle.step_core.proofs.waits.waiting.Given as goal

abbrev pub invariant-loop-before : goal.invariant-loop-before
invariant-loop-before l = record {
  count : l.count ≡ count_below (waits l.spec l.stack.steps) l.before;
  few : l.count ≤ l.before;
}
