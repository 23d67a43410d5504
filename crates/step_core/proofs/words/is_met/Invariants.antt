use Rattle.std.proofs.Common.{◌≡◌, false}
use Rattle.bound_core.specs.Counts.{some_below}
use Rattle.step_core.specs.Steps.{meets_at}
use Rattle.step_core.proofs.words.is_met.Given as goal

abbrev pub invariant-loop-index : goal.invariant-loop-index
invariant-loop-index l = some_below (meets_at l.spec l.stack.steps l.output) l.index ≡ false
