use Rattle.std.proofs.Common.{◌≡◌, false}
use Rattle.bound_core.specs.Counts.{some_below}
use Rattle.step_core.specs.Waits.{reads_at}
use Rattle.step_core.proofs.waits.is_read.Given as goal

abbrev pub invariant-loop-index : goal.invariant-loop-index
invariant-loop-index l = some_below (reads_at l.stack.steps l.place) l.index ≡ false
