use Rattle.std.proofs.Common.{◌≡◌, false}
use Rattle.bound_core.specs.Counts.{some_below}
use Rattle.step_core.specs.Pruning.{are_compatible}
use Rattle.step_core.proofs.pruning.is_incompatible.Given as goal

abbrev pub invariant-loop-before : goal.invariant-loop-before
invariant-loop-before l = some_below (are_compatible l.spec l.output) l.before ≡ false
