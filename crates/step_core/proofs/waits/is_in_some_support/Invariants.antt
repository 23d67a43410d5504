use Rattle.std.proofs.Common.{◌≡◌, false}
use Rattle.bound_core.specs.Counts.{some_below}
use Rattle.step_core.specs.Waits.{has_in_support}
use Rattle.step_core.proofs.waits.is_in_some_support.Given as goal

abbrev pub invariant-loop-output : goal.invariant-loop-output
invariant-loop-output l = some_below (has_in_support l.spec l.place) l.output ≡ false
