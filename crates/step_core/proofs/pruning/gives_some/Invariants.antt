use Rattle.std.proofs.Common.{◌≡◌, false}
use Rattle.bound_core.specs.Counts.{some_below}
use Rattle.step_core.specs.Pruning.{gives}
use Rattle.step_core.proofs.pruning.gives_some.Given as goal

abbrev pub invariant-loop-output : goal.invariant-loop-output
invariant-loop-output l = some_below (gives l.spec l.stack.steps l.word) l.output ≡ false
