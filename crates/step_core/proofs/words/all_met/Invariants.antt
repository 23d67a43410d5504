use Rattle.std.proofs.Common.{◌≡◌, false}
use Rattle.bound_core.specs.Counts.{some_below}
use Rattle.step_core.specs.Steps.{is_missing}
use Rattle.step_core.proofs.words.all_met.Given as goal

abbrev pub invariant-loop-output : goal.invariant-loop-output
invariant-loop-output l = some_below (is_missing l.spec l.stack.steps) l.output ≡ false
